-- `scoring::put` meets its contract. Assumes nothing.
use Rattle.std.proofs.Common.{refl, add-one}
use Rattle.scoring.specs.Putting.{pushes, full, nothing}
use Rattle.scoring.proofs.put.Goals as goal

pub returns-then-len-m : goal.returns-then-len-m
returns-then-len-m c = rw c.in-Some.is (pushes (record { room = c.if-len-m.true; pushed = c.push.ensures; count = add-one c.args.len.now }))

pub returns-else-len-m : goal.returns-else-len-m
returns-else-len-m c = rw c.in-Some.is (full c.if-len-m.false (record { floats = refl; words = refl; count = refl }))

pub returns-in_default : goal.returns-in_default
returns-in_default c = rw c.in_default.is (nothing (record { floats = refl; words = refl; count = refl }))
