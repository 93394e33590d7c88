-- A vector of the list by its ten numbers. Assumes nothing.
use Rattle.std.specs.Prelude.{ℕ, List, Option, Some, None, Result, Ok, Err, nat_eq, if◌then◌else◌, slice_index}
use Rattle.vectors.specs.declared.call.Call.{Call}
use Rattle.vectors.specs.declared.call.Call.TheVariants.{SimplifyVwIdx, SimplifyVw, SimplifyVwPreserve, SimplifyVwPreservePolygon, RemoveRepeatedPoints, RemoveRepeatedPointsAnywhere}
use Rattle.vectors.specs.declared.list.Vector.{Vector}
use Rattle.vectors.specs.declared.list.Refusal.{Refusal}

abbrev pub call_of : ℕ → Option Call
call_of n =
    if nat_eq n 1 then Some SimplifyVwIdx
    else (if nat_eq n 2 then Some SimplifyVw
    else (if nat_eq n 3 then Some SimplifyVwPreserve
    else (if nat_eq n 4 then Some SimplifyVwPreservePolygon
    else (if nat_eq n 5 then Some RemoveRepeatedPoints
    else (if nat_eq n 6 then Some RemoveRepeatedPointsAnywhere
    else None)))))

-- after 0 the count, and after a reason's number its place
abbrev pub answer_of : ℕ → ℕ → Result ℕ Refusal
answer_of reason n = if nat_eq reason 0 then Ok n else Err (record { number = reason; place = n })

abbrev pub vector_of : List ℕ → Vector
vector_of n = record {
  call = call_of (slice_index n 0);
  lent = record {
    xs = slice_index n 1;
    ys = slice_index n 2;
    rings = slice_index n 3;
    out = slice_index n 4;
    table = slice_index n 5;
    floats = slice_index n 6;
    words = slice_index n 7;
  };
  answer = answer_of (slice_index n 8) (slice_index n 9);
}
