-- `part::copy` meets its contract. Assumes nothing.
use mathlib.Core.Path.{refl, ◌∙◌, subst}
use Prim.Native.Nat.{ℕ}
use native.Mathlib.Omega.{arith}
use lib.ListN.{length-set}
use Rattle.part.specs.Parts.{Copied}
use Rattle.part.proofs.Copying.{copied_none, copied_more}
use Rattle.part.proofs.copy.Goals as goal

pub loop-i-init : goal.loop-i-init
loop-i-init c = record { level = refl; below = omega arith; copied = copied_none _ _ _ }

pub loop-i-preserved : goal.loop-i-preserved
loop-i-preserved c =
    let w = c.loop-i.invariant in
    record { level = length-set c.loop-i.to _ _ ∙ w.level; below = omega arith; copied = copied_more (omega (arith, w.level)) w.copied }

pub returns : goal.returns
returns c =
    let l = c.loop-i in
    let a = c.args in
    subst (λ (n : ℕ). Copied a.to.now a.at a.from.now n l.to) (omega (arith, c.loop-i-test.false, l.invariant.below)) l.invariant.copied
