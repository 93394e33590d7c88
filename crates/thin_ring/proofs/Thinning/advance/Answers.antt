-- `thin_ring::Thinning::advance` meets its contract. Assumes nothing.
use mathlib.Core.Path.{◌∙◌}
use native.Mathlib.Omega.{arith}
use Rattle.blocks.proofs.Stored.{has_as}
use Rattle.thin_ring.proofs.Moving.{stop_nothing, stop_first, stop_second, goes}
use Rattle.thin_ring.proofs.Thinning.advance.Goals as goal

pub returns-in_default : goal.returns-in_default
returns-in_default c =
    let z = c.requires in
    stop_nothing _ _ _ _ _ _ _ _ _ _ z.0 z.1 z.2 c.in_default.ensures

pub returns-then-count-self : goal.returns-then-count-self
returns-then-count-self c =
    let z = c.requires in
    stop_first _ _ _ _ _ _ _ _ _ _ z.0 z.1 z.2 c.in-Some.ensures c.if-count-self.true

pub returns-then-count-self-2 : goal.returns-then-count-self-2
returns-then-count-self-2 c =
    let z = c.requires in
    stop_second _ _ _ _ _ _ _ _ _ _ z.0 z.1 z.2 c.in-Some.ensures c.if-count-self.false c.if-crossed.ensures c.if-count-self-2.true

pub returns : goal.returns
returns c =
    let z = c.requires in
    let k = c.in-Some.ensures in
    let s = k.picked.1 in
    goes _ _ _ _ _ _ _ _ _ _ z.0 z.1 z.2 k c.if-count-self.false c.crosses-crossed.ensures c.else-crossed.either
    (record { left = s.left; current = s.current; right = s.right }) (omega (arith, z.0.linked, c.pick.auto.words))
    (rw c.then_some-demotion.ensures at c.remove.ensures) (has_as (c.remove.auto.floats ∙ c.pick.auto.floats) z.2.has) c.cover.ensures
