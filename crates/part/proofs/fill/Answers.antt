-- `part::fill` meets its contract. Assumes nothing.
use Rattle.std.proofs.Common.{◌≡◌, ap, ◌∙◌, ◌*◌, ◌-◌, length-set}
use Rattle.rule.specs.Sizes.{most_points}
use Rattle.layout.specs.declared.Layout.{Layout}
use Rattle.part.proofs.Copying.{copied}
use Rattle.part.proofs.Filling.{filled}
use Rattle.part.proofs.fill.Goals as goal

pub returns : goal.returns
returns c =
    let fine = c.requires.2 in
    let x_is : c.slot-m.result.x ≡ 3 * most_points = ap (λ (m : Layout). m.x) c.slot-m.ensures in
    let y_is : c.slot-m.result.y ≡ 4 * most_points = ap (λ (m : Layout). m.y) c.slot-m.ensures in
    let tolerance_level = length-set c.args.floats.now (c.slot-m.result.x - 1) c.args.tolerance ∙ c.requires.0 in
    let x_copied = copied c.copy.ensures c.copy.auto.to in
    let x_level = x_copied.level ∙ tolerance_level in
    let y_copied = copied c.copy-2.ensures c.copy-2.auto.to in
    filled fine c.requires.3 c.requires.0 (c.seed-len.auto.floats) (c.seed-len.auto.words ∙ c.link.auto.words ∙ c.requires.1) c.slot-m.ensures
    (record { copied_x = x_copied; copied_y = y_copied; linked = c.link.ensures; seeded = c.seed-len.ensures })
