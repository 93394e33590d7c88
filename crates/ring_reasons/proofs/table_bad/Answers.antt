-- `ring_reasons::table_bad` meets its contract. Assumes nothing.
use Rattle.std.proofs.Common.{rules}
use Rattle.std.proofs.lemmas.List.Sorted.{non_decreasing_from_is_sorted}
use Rattle.ring_reasons.proofs.Table.{too_long, falls_is, ends_is, bad_so_far, bad_at_end}
use Rattle.ring_reasons.proofs.table_bad.Goals as goal
use Rattle.ring_reasons.proofs.table_bad.Goals.{then-table-gt-RINGS, else-table-gt-RINGS}

pub returns-then-not-is_sorted : goal.returns-then-not-is_sorted
returns-then-not-is_sorted c =
    let table = c.args.rings.now in
    let n = c.new-table.ensures in
    elim c.if-table-gt-RINGS.branch [
      | then-table-gt-RINGS w ↦ bad_so_far _ table (too_long table n w.if-table-gt-RINGS.true w.value-is) c.if-not-is_sorted.true
      | else-table-gt-RINGS w ↦
          bad_so_far _ table (falls_is table w.is_sorted.result n w.if-table-gt-RINGS.false (non_decreasing_from_is_sorted _ _ w.is_sorted.ensures.cases) w.value-is)
          c.if-not-is_sorted.true
    ]

pub returns-else-not-is_sorted : goal.returns-else-not-is_sorted
returns-else-not-is_sorted c =
    let table = c.args.rings.now in
    let n = c.new-table.ensures in
    let last = ends_is c.args.points table c.last.result c.is_none_or.result c.last.ensures.value c.is_none_or.ensures (λ e q. search rules) in
    elim c.if-table-gt-RINGS.branch [
      | then-table-gt-RINGS w ↦ bad_at_end _ table (too_long table n w.if-table-gt-RINGS.true w.value-is) c.if-not-is_sorted.false last
      | else-table-gt-RINGS w ↦
          bad_at_end _ table (falls_is table w.is_sorted.result n w.if-table-gt-RINGS.false (non_decreasing_from_is_sorted _ _ w.is_sorted.ensures.cases) w.value-is)
          c.if-not-is_sorted.false last
    ]
