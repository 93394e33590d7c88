-- What a put does and changes. Assumes nothing.
use mathlib.Core.Path.{ap}
use mathlib.Core.List.{List}
use Rattle.std.specs.Prelude.{Option}
use Prim.Native.Nat.{ℕ, suc, ◌≤◌}
use native.Mathlib.Omega.{arith}
use lib.ListN.{get_or}
use lib.Ieee.{Float, nan}
use Rattle.layout.specs.declared.Layout.{Layout}
use Rattle.vscore.specs.declared.VScore.{VScore}
use Rattle.scores.specs.Memory.{Framed}
use Rattle.scores.proofs.Memory.{framed_more}
use Rattle.scoring.specs.Putting.{Unchanged, PutIs, pushes, full, nothing}

module _ {fs : List Float} {ws : List ℕ} {m : Layout} {len : ℕ} {fs' : List Float} {ws' : List ℕ} {k : ℕ} where
  unchanged_framed : Unchanged fs ws len fs' ws' k → Framed fs ws m m.capacity fs' ws'
  unchanged_framed u = record {
    floats = λ i h. ap (λ (x : List Float). get_or x i nan) u.floats;
    before = λ i h. ap (λ (x : List ℕ). get_or x i 0) u.words;
    after = λ i h. ap (λ (x : List ℕ). get_or x i 0) u.words;
  }

  pub put_framed : {r : Option VScore} → PutIs fs ws m len fs' ws' k r → Framed fs ws m m.capacity fs' ws'
  put_framed (pushes p) = framed_more p.room p.pushed.framed
  put_framed (full h u) = unchanged_framed u
  put_framed (nothing u) = unchanged_framed u

  pub put_count : {r : Option VScore} → PutIs fs ws m len fs' ws' k r → len ≤ m.capacity → (k ≤ m.capacity) × (k ≤ suc len)
  put_count (pushes p) l = (omega (arith, p.count, p.room), omega (arith, p.count))
  put_count (full h u) l = (omega (arith, u.count), omega (arith, u.count))
  put_count (nothing u) l = (omega (arith, u.count), omega (arith, u.count))
