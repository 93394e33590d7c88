-- `crossing::crosses` meets its contract. The invariant: block after block is passed. Assumes nothing.
use mathlib.Core.Path.{◌≡◌, refl, sym, ◌∙◌}
use mathlib.Core.Bool.{Bool, true, false, ◌&&◌, true≢false}
use native.Mathlib.Omega.{arith}
use borrow.Author.Tests.{ltb-true}
use Rattle.crossing.proofs.Passing.{Ends, tested_walk, tested_apart, tested_end}
use Rattle.crossing.proofs.crosses.Goals as goal
use Rattle.crossing.proofs.crosses.Goals.{then-k-b, else-k-b, then-leaves_out, else-leaves_out+in-Some}

first : (a b : Bool) → (a && b) ≡ true → a ≡ true
first true b e = refl
first false b e = e

second : (a b : Bool) → (a && b) ≡ true → b ≡ true
second true b e = e
second false b e = absurd (true≢false (sym e))

pub loop-k-preserved : goal.loop-k-preserved
loop-k-preserved c =
    let ends : Ends c.args.present.blocks c.args.present.plot.m c.loop-k.k c.if-k-b.end =
    elim c.if-k-b.branch [
      | then-k-b w ↦ record { block = λ h. omega (arith, w.end-is, w.saturating_mul.ensures, w.min-end.ensures); rest = λ h. absurd (omega (arith, w.if-k-b.true)) }
      | else-k-b w ↦ record { block = λ h. absurd (omega (arith, w.if-k-b.false)); rest = λ h. w.end-is }
    ] in
    elim c.if-leaves_out.branch [
      | then-leaves_out w ↦
          let left = rw (c.spanning-new.ensures, c.of_none.ensures) at (sym c.leaves_out.ensures ∙ w.if-leaves_out.true) in
          tested_apart _ _ _ _ _ _ _ _ c.loop-k.invariant ends (ltb-true _ _ (second _ _ (first _ _ left))) c.requires.0 c.requires.1 (second _ _ left) w.from-is
      | else-leaves_out+in-Some w ↦
          rw w.from-is (tested_walk _ _ _ _ _ _ _ _ c.loop-k.invariant ends (rw w.in-Some.is at w.walk.ensures).walked)
    ]

pub returns : goal.returns
returns c = tested_end _ _ _ _ _ _ _ _ c.loop-k.invariant (omega (arith, c.loop-k-test.false))
