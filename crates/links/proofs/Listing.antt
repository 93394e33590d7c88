-- The walks over the marks: the points without a mark, counted and listed. Assumes nothing.
use mathlib.Core.Path.{◌≡◌, refl, sym, ap, ◌∙◌, subst}
use mathlib.Core.Bool.{Bool, true, false, cond}
use mathlib.Core.List.{List, [], ◌∷◌, ◌++◌, append-nil}
use Prim.Native.Nat.{ℕ, ◌+◌, ◌≤◌, ◌<◌, min}
use native.Mathlib.Nat.{zero-add}
use native.Mathlib.Omega.{arith}
use lib.Dec.{eqb}
use lib.ListN.{length, set, take, length-append, length-take}
use lib.Seq.{take_all, take-nil, take-append-le}
use Rattle.layout.specs.declared.Layout.{Layout}
use Rattle.rule.specs.Whole.{over}
use Rattle.laws.proofs.Over.{over_more}
use Rattle.links.specs.Ring.{kept_from, all_unmarked}
use Rattle.links.specs.Calls.{Listed}
use Rattle.links.proofs.Marks.{kept_append}

-- ---- one point further

module _ (mark : ℕ → ℕ) (i : ℕ) where
  kept_more : (b : Bool) → eqb (mark i) 0 ≡ b → kept_from mark 0 (i + 1) ≡ kept_from mark 0 i ++ cond b (i ∷ []) []
  kept_more b e =
      let g : kept_from mark (0 + i) 1 ≡ cond (eqb (mark i) 0) (i ∷ []) [] = (unfold kept_from in rw zero-add) in
      kept_append mark 0 i 1 ∙ ap (λ (l : List ℕ). kept_from mark 0 i ++ l) (g ∙ ap (λ (x : Bool). cond x (i ∷ []) []) e)

  pub kept_one : eqb (mark i) 0 ≡ true → kept_from mark 0 (i + 1) ≡ kept_from mark 0 i ++ (i ∷ [])
  kept_one = kept_more true

  pub kept_none : eqb (mark i) 0 ≡ false → kept_from mark 0 (i + 1) ≡ kept_from mark 0 i
  kept_none e = kept_more false e ∙ append-nil (kept_from mark 0 i)

-- ---- counted

-- of the points before i so many have no mark
pub record Counting (mark : ℕ → ℕ) (i c : ℕ) : Type 0 where
  pub few : c ≤ i
  pub number : c ≡ length (kept_from mark 0 i)

pub counting_start : (mark : ℕ → ℕ) → Counting mark 0 0
unfolding kept_from
counting_start mark = record { few = omega arith; number = refl }

module _ {mark : ℕ → ℕ} {i c : ℕ} (s : Counting mark i c) where
  pub counting_kept : eqb (mark i) 0 ≡ true → Counting mark (i + 1) (c + 1)
  counting_kept e = record {
    few = omega (arith, s.few);
    number = ap (λ (x : ℕ). x + 1) s.number ∙ sym (ap length (kept_one mark i e) ∙ length-append (kept_from mark 0 i) (i ∷ []));
  }

  pub counting_gone : eqb (mark i) 0 ≡ false → Counting mark (i + 1) c
  counting_gone e = record { few = omega (arith, s.few); number = s.number ∙ sym (ap length (kept_none mark i e)) }

pub counting_as : {mark : ℕ → ℕ} {i c c' : ℕ} → c' ≡ c → Counting mark i c → Counting mark i c'
counting_as {mark} {i} e s = subst (Counting mark i) (sym e) s

-- ---- listed

-- of the points before i those without a mark, as many as there is room for, from the start of out
pub record Listing (mark : ℕ → ℕ) (out out' : List ℕ) (i c : ℕ) : Type 0 where
  pub number : c ≡ length (take (length out) (kept_from mark 0 i))
  pub list : out' ≡ over (take (length out) (kept_from mark 0 i)) out

pub listing_start : (mark : ℕ → ℕ) (out : List ℕ) → Listing mark out out 0 0
unfolding kept_from
listing_start mark out = record { number = rw take-nil; list = rw take-nil }

module _ {mark : ℕ → ℕ} {out out' : List ℕ} {i c : ℕ} (s : Listing mark out out' i c) where
  kept : List ℕ
  kept = kept_from mark 0 i

  pub listing_kept : eqb (mark i) 0 ≡ true → c < length out → Listing mark out (set out' c i) (i + 1) (c + 1)
  unfolding kept
  listing_kept e h = record { number = number; list = list }
    where
      size : length (take (length out) kept) ≡ min (length out) (length kept)
      size = length-take (length out) kept

      fits : length kept < length out
      fits = omega (arith, size, s.number)

      whole : take (length out) kept ≡ kept
      whole = take_all (length out) kept (omega (arith, fits))

      longer : take (length out) (kept_from mark 0 (i + 1)) ≡ kept ++ (i ∷ [])
      longer = ap (take (length out)) (kept_one mark i e) ∙ take_all (length out) (kept ++ (i ∷ [])) (rw length-append (omega (arith, fits)))

      c_is : c ≡ length kept
      c_is = s.number ∙ ap length whole

      number : c + 1 ≡ length (take (length out) (kept_from mark 0 (i + 1)))
      number = ap (λ (x : ℕ). x + 1) c_is ∙ sym (ap length longer ∙ length-append kept (i ∷ []))

      list : set out' c i ≡ over (take (length out) (kept_from mark 0 (i + 1))) out
      list =
          ap (λ (x : List ℕ). set x c i) (s.list ∙ ap (λ (x : List ℕ). over x out) whole) ∙ ap (λ (x : ℕ). set (over kept out) x i) c_is
          ∙ over_more kept out i fits ∙ ap (λ (x : List ℕ). over x out) (sym longer)

  -- the list is as it was
  unchanged : take (length out) (kept_from mark 0 (i + 1)) ≡ take (length out) (kept_from mark 0 i) → Listing mark out out' (i + 1) c
  unchanged e = record { number = s.number ∙ ap length (sym e); list = s.list ∙ ap (λ (x : List ℕ). over x out) (sym e) }

  pub listing_full : eqb (mark i) 0 ≡ true → length out ≤ c → Listing mark out out' (i + 1) c
  listing_full e h =
      let size : length (take (length out) (kept_from mark 0 i)) ≡ min (length out) (length (kept_from mark 0 i)) = length-take (length out) (kept_from mark 0 i) in
      let full : length out ≤ length (kept_from mark 0 i) = omega (arith, s.number) in
      unchanged (ap (take (length out)) (kept_one mark i e) ∙ take-append-le (length out) (kept_from mark 0 i) (i ∷ []) full)

  pub listing_gone : eqb (mark i) 0 ≡ false → Listing mark out out' (i + 1) c
  listing_gone e = unchanged (ap (take (length out)) (kept_none mark i e))

pub listing_as : {mark : ℕ → ℕ} {out₀ out out' : List ℕ} {i c c' : ℕ} → out' ≡ out → c' ≡ c → Listing mark out₀ out i c → Listing mark out₀ out' i c'
listing_as {mark} {out₀} {out} {out'} {i} {c} {c'} a e s =
    subst (λ (x : List ℕ). Listing mark out₀ x i c') (sym a) (subst (λ (x : ℕ). Listing mark out₀ out i x) (sym e) s)

-- ---- with room for all

pub listed_all : {ws : List ℕ} {m : Layout} {out out' : List ℕ} {r : ℕ} → Listed ws m out out' r → length (all_unmarked ws m) ≤ length out
    → (r ≡ length (all_unmarked ws m)) × (out' ≡ over (all_unmarked ws m) out)
listed_all {ws} {m} {out} h room =
    let e : take (length out) (all_unmarked ws m) ≡ all_unmarked ws m = take_all (length out) (all_unmarked ws m) room in
    (h.number ∙ ap length e, h.list ∙ ap (λ (l : List ℕ). over l out) e)
