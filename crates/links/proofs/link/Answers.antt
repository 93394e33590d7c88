-- `links::link` meets its contract. Assumes nothing.
use mathlib.Core.Path.{◌≡◌}
use native.Mathlib.Omega.{arith}
use Rattle.std.proofs.lemmas.Bool.Decides.{nat_tests}
use Rattle.links.specs.Calls.{back, ahead}
use Rattle.links.proofs.Turns.{linking_more, linking_end}
use Rattle.links.proofs.link.Goals as goal

pub loop-i-preserved : goal.loop-i-preserved
loop-i-preserved c =
    let r = c.requires in
    let p : c.if-lo-i.p ≡ back c.args.lo c.args.m.points c.loop-i.i = grind (arith, nat_tests) in
    let q : c.if-i-hi.q ≡ ahead c.args.hi c.args.m.points c.loop-i.i = grind (arith, nat_tests) in
    linking_more c.loop-i.invariant r.3 (omega arith) (omega arith) c.loop-i-test.true p q c.join.ensures

pub returns : goal.returns
returns c = let r = c.requires in linking_end c.loop-i.invariant r.3 r.2 c.loop-i-test.false
