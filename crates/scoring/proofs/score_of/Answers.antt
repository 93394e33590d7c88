-- `scoring::score_of` meets its contract. Assumes nothing.
use Rattle.std.proofs.Common.{arith}
use Rattle.scoring.proofs.Scoring.{score_made}
use Rattle.scoring.specs.Plot.{missing}
use Rattle.scoring.proofs.score_of.Goals as goal

pub returns-then-n-l : goal.returns-then-n-l
returns-then-n-l c = missing (λ p. omega (arith, p.left, p.current, p.right))

pub returns : goal.returns
returns c =
    score_made c.new.ensures
    (record { left = omega (arith, c.if-n-l.false); current = omega (arith, c.if-n-i.false); right = omega (arith, c.if-n-r.false) })
    (simp (c.at.ensures.0, c.at.ensures.1, c.at-2.ensures.0, c.at-2.ensures.1, c.at-3.ensures.0, c.at-3.ensures.1) at c.area.ensures)
