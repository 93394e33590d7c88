-- `crossing::Present::walk` meets its contract. The invariant: none that starts before i is against. Assumes nothing.
use native.Mathlib.Omega.{arith}
use Rattle.crossing.proofs.Crossing.{against_at, against_crosses}
use Rattle.crossing.proofs.Passing.{walking_on}
use Rattle.crossing.proofs.Present.walk.Goals as goal

pub returns-then-against : goal.returns-then-against
returns-then-against c =
    let z = c.requires in
    let p = c.args.self.now.plot in
    let s = c.leads_to.ensures.some _ c.in-Some.is in
    let h =
    against_at p.m p.x.now p.y.now c.loop-i.i c.in-Some.j c.args.l c.args.r c.at.ensures c.at-in-Some.ensures c.at-left.ensures c.at-right.ensures
    c.against.ensures in
    record { walked = against_crosses _ _ _ _ _ _ z.1 z.2 (omega arith) s.0 s.1 h c.if-against.true }

pub loop-i-preserved : goal.loop-i-preserved
loop-i-preserved c =
    let z = c.requires in
    let p = c.args.self.now.plot in
    let s = c.leads_to.ensures.some _ c.in-Some.is in
    let h =
    against_at p.m p.x.now p.y.now c.loop-i.i c.in-Some.j c.args.l c.args.r c.at.ensures c.at-in-Some.ensures c.at-left.ensures c.at-right.ensures
    c.against.ensures in
    walking_on _ _ _ _ _ _ _ z.1 z.2 (omega arith) s.0 s.1 h c.if-against.false c.loop-i.invariant c.max-i.ensures
