-- `ending::zero_scratch` meets its contract. Assumes nothing.
use lib.Ieee.{of_bits}
use Rattle.ending.proofs.Zeros.{filled}
use Rattle.ending.proofs.zero_scratch.Goals as goal

pub returns : goal.returns
unfolding of_bits
returns c = (filled _ _ _ c.requires.0 (c.fill.ensures.after (λ y e. e)), filled _ _ _ c.requires.1 (c.fill-2.ensures.after (λ y e. e)))
