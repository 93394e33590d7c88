-- What it says of a polygon that no reason applies. Assumes nothing.
use mathlib.Core.Path.{◌≡◌}
use mathlib.Core.Bool.{◌||◌}
use mathlib.Core.List.{List, ◌∷◌, ◌++◌}
use Prim.Native.Nat.{ℕ}
use lib.Dec.{ltb}
use lib.ListN.{length}
use lib.Ieee.{Float}
use Rattle.rule.specs.Reasons.{Row, line_rows, ring_table, ring_not_closed, polygon_reason}
use Rattle.rule.specs.Whole.{LentRings}
use Rattle.reasons.specs.Verdict.{memory_rows}
use Rattle.rule.proofs.Reasons.{none_applies}
use Rattle.lent.proofs.Rows.{room_for, ready_of}
use Rattle.ring_reasons.proofs.Table.{table_cuts}
use Rattle.simplify_vw_preserve.specs.Whole.{ReadyRings}

pub polygon_ready : (us vs : List Float) (t : Float) (table : List ℕ) (m : LentRings)
    → polygon_reason us vs t table (length m.line.out) (length m.ring_out) (length m.line.floats) (length m.line.words) ≡ 0 → ReadyRings us vs t table m
unfolding polygon_reason
polygon_ready us vs t table m e =
    let n = length us in
    let short = ltb (length m.line.out) n || ltb (length m.ring_out) (length table) in
    let more : List Row = ring_table n table ∷ ring_not_closed us vs table ∷ memory_rows short (length m.line.floats) (length m.line.words) n in
    let a = none_applies (line_rows us vs t ++ more) tt e in
    let rings = a.1.1.1.1 in
    let room = room_for (length m.line.out) n (length m.ring_out) (length table) rings.1.1.0 in
    record { line = ready_of us vs t m.line more a room.0 rings.1.1.1.0; cuts = table_cuts n table rings.0; room = room.1 }
