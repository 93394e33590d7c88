-- `blocks::Blocks::store` meets its contract. Assumes nothing.
use native.Mathlib.Omega.{arith}
use Rattle.blocks.proofs.Stored.{stored_part}
use Rattle.blocks.proofs.Blocks.store.Goals as goal

pub returns : goal.returns
returns c = stored_part _ _ _ _ _ (omega (arith, c.requires.0.room)) (omega arith) c.copy_from_slice.ensures.after
