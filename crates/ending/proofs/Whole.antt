-- What the end of a call that thins leaves: the list, the count and zeros, whatever was in the scratch; and that the call is then what it promises.
-- Assumes nothing.
use mathlib.Core.Path.{◌≡◌, ap, ◌∙◌}
use mathlib.Core.Bool.{Bool, true, false, cond}
use mathlib.Core.List.{List, ◌∷◌}
use Prim.Native.Nat.{ℕ, zero, suc, ◌≤◌}
use native.Mathlib.Omega.{arith}
use lib.Dec.{eqb}
use lib.ListN.{length, get_or}
use lib.Ieee.{Float, nan}
use Rattle.std.specs.Prelude.{⊤, Result, Ok}
use Rattle.rule.specs.declared.Reason.{Reason}
use Rattle.rule.specs.Sizes.{scratch_floats, scratch_words}
use Rattle.rule.specs.Grid.{Point, points}
use Rattle.rule.specs.Area.{zero_float, cleared}
use Rattle.rule.specs.Answers.{kept, of_outcome}
use Rattle.rule.specs.Reasons.{first_off_grid, thin_reason}
use Rattle.rule.specs.Whole.{over, Lent, lent, Thins}
use Rattle.rule.proofs.Settled.{call_done}
use Rattle.layout.specs.declared.Layout.{Layout}
use Rattle.layout.specs.Layout.{scratch_of}
use Rattle.links.specs.Words.{mark_at}
use Rattle.links.specs.Ring.{kept_from, all_unmarked}
use Rattle.links.specs.Calls.{Listed}
use Rattle.links.proofs.Listing.{listed_all}
use Rattle.reasons.specs.Verdict.{verdict}
use Rattle.reasons.proofs.Ready.{no_reason}
use Rattle.ending.specs.Keeps.{Keeps}
use Rattle.ending.proofs.Zeros.{cleared_same}

kept_short : (mark : ℕ → ℕ) (i n : ℕ) → length (kept_from mark i n) ≤ n
unfolding kept_from
kept_short mark i zero = omega arith
kept_short mark i (suc n) = go (eqb (mark i) 0) (kept_short mark (suc i) n)
  where
    go : (b : Bool) → length (kept_from mark (suc i) n) ≤ n → length (cond b (i ∷ kept_from mark (suc i) n) (kept_from mark (suc i) n)) ≤ suc n
    go true h = omega arith
    go false h = omega arith

module _ {n r : ℕ} {m : Layout} {out out' ws : List ℕ} (e : m ≡ scratch_of n) (room : n ≤ length out) (l : Listed ws m out out' r) where
  whole : (r ≡ length (all_unmarked ws (scratch_of n))) × (out' ≡ over (all_unmarked ws (scratch_of n)) out)
  whole = listed_all (rw e at l) (omega (arith, kept_short (mark_at ws (scratch_of n)) 0 n))

  pub few_listed : r ≤ n
  few_listed = omega (arith, whole.0, kept_short (mark_at ws (scratch_of n)) 0 n)

  pub listed_keeps : {fs fs' : List Float} {ws' : List ℕ} → fs' ≡ cleared zero_float (scratch_floats n) fs → ws' ≡ cleared 0 (scratch_words n) ws
      → Keeps n (all_unmarked ws (scratch_of n)) (lent out fs ws) r (lent out' fs' ws')
  listed_keeps f g = record { count = whole.0; left = rw (whole.1, f, g) }

-- what changed before is zeros now
pub keeps_from : {n r : ℕ} {ks out : List ℕ} {fs fs₁ : List Float} {ws ws₁ : List ℕ} {m' : Lent} → length fs₁ ≡ length fs → length ws₁ ≡ length ws
    → ((i : ℕ) → scratch_floats n ≤ i → get_or fs₁ i nan ≡ get_or fs i nan) → ((i : ℕ) → scratch_words n ≤ i → get_or ws₁ i 0 ≡ get_or ws i 0)
    → Keeps n ks (lent out fs₁ ws₁) r m' → Keeps n ks (lent out fs ws) r m'
keeps_from {n} {ks = ks} {out = out} {fs = fs} {fs₁ = fs₁} {ws = ws} {ws₁ = ws₁} lf lw f g k = record {
  count = k.count;
  left = k.left ∙ rw (cleared_same zero_float nan (scratch_floats n) fs fs₁ lf f, cleared_same 0 0 (scratch_words n) ws ws₁ lw g);
}

-- a call whose tests found no reason
module _ {o : Result ⊤ Reason} (us vs : List Float) (t : Float) (m : Lent) (told : o ≡ Ok tt)
    (tested : of_outcome o ≡ verdict (thin_reason us vs t (length m.out) (length m.floats) (length m.words)) (first_off_grid us vs)) where
  pub thins_done : {r : ℕ} {m' : Lent} (rule : List Point → Float → List ℕ) → Keeps (length us) (rule (points us vs) t) m r m' → Thins rule us vs t m (kept r) m'
  thins_done rule k = call_done (no_reason us vs t m told tested) (ap kept k.count) k.left
