-- `slot_reasons::is_open` meets its contract. Assumes nothing.
use mathlib.Core.Path.{sym, ap, ◌∙◌}
use mathlib.Core.Bool.{not}
use Prim.Native.Nat.{ℕ}
use native.Mathlib.Omega.{arith}
use lib.Dec.{eqb}
use lib.ListN.{get_or}
use Rattle.rule.specs.Sizes.{slot_words}
use Rattle.rule.specs.Area.{is_open}
use Rattle.rule.proofs.Parts.{piece_at}
use Rattle.slot_reasons.proofs.is_open.Goals as goal

pub returns : goal.returns
unfolding is_open
returns c =
    let ws = c.args.words.now in
    ap (λ (w : ℕ). not (eqb w 0))
    (ap (λ (i : ℕ). get_or ws i 0) (omega (arith, c.new.ensures.1)) ∙ sym (piece_at slot_words c.args.slot.0 ws 0 0 (omega arith)))
