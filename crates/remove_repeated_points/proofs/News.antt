-- The two rules are what looking back finds: one point back, or as far as there are points. And the list that the loop writes. Assumes nothing.
use mathlib.Core.Path.{◌≡◌, refl, sym, ap, ◌∙◌}
use mathlib.Core.Bool.{Bool, true, false, not, cond, or-false}
use mathlib.Core.List.{List, [], ◌∷◌, ◌++◌, append_assoc, append-nil}
use Prim.Native.Nat.{ℕ, zero, suc, ◌+◌, ◌-◌, ◌≤◌, ◌<◌}
use native.Mathlib.Omega.{arith}
use native.Mathlib.Nat.{zero-add, add-zero}
use native.Mathlib.Numerals.{add-one}
use lib.ListN.{length, drop, set, drop_of_length-le, length-append}
use lib.Seq.{drop-cons}
use lib.IntN.{pos}
use Rattle.rule.specs.Grid.{Point, at}
use Rattle.rule.specs.Segment.{same}
use Rattle.rule.specs.Repeat.{changes, consecutive, is_in, firsts, anywhere}
use Rattle.laws.proofs.Over.{over_more}
use Rattle.remove_repeated_points.specs.Back.{among, is_new, news, all_new, Listed}
use Rattle.remove_repeated_points.proofs.Same.{same_sym}

-- a point left out, or one more index
one_more : (b : Bool) (k : ℕ) (l r : List ℕ) → l ++ cond b r (k ∷ r) ≡ (l ++ cond (not b) (k ∷ []) []) ++ r
one_more true k l r = ap (λ (m : List ℕ). m ++ r) (sym (append-nil l))
one_more false k l r = sym (append_assoc l (k ∷ []) r)

-- past the last point
all_seen : (ps : List Point) (i : ℕ) → i ≡ length ps → drop i ps ≡ []
all_seen ps i e = drop_of_length-le ps {i = i} (omega arith)

next_point : (ps : List Point) (i : ℕ) → i < length ps → drop i ps ≡ at ps i ∷ drop (suc i) ps
next_point ps i h = drop-cons ps i (record { x = pos 0; y = pos 0 }) h

-- ---- consecutive

new_one : (ps : List Point) (i : ℕ) → is_new 1 ps (suc i) ≡ not (same (at ps i) (at ps (suc i)))
unfolding is_new among
new_one ps i =
    let a : suc i - 1 ≡ i = omega arith in
    let b : suc i - i ≡ 1 = omega arith in
    rw (a, b, or-false (same (at ps (suc i)) (at ps (i + 0))), add-zero i) (ap not (same_sym (at ps (suc i)) (at ps i)))

runs : (m i : ℕ) (ps : List Point) → suc i + m ≡ length ps
    → news 1 ps (suc i) ++ changes (at ps i) (suc i) (drop (suc i) ps) ≡ news 1 ps (length ps)
unfolding changes news
runs zero i ps e =
    let s : suc i ≡ length ps = omega arith in
    ap (λ (l : List Point). news 1 ps (suc i) ++ changes (at ps i) (suc i) l) (all_seen ps (suc i) s) ∙ append-nil (news 1 ps (suc i)) ∙ ap (news 1 ps) s
runs (suc m) i ps e =
    let r = changes (at ps (suc i)) (suc (suc i)) (drop (suc (suc i)) ps) in
    ap (λ (l : List Point). news 1 ps (suc i) ++ changes (at ps i) (suc i) l) (next_point ps (suc i) (omega arith))
    ∙ one_more (same (at ps i) (at ps (suc i))) (suc i) (news 1 ps (suc i)) r
    ∙ ap (λ (b : Bool). (news 1 ps (suc i) ++ cond b (suc i ∷ []) []) ++ r) (sym (new_one ps i))
    ∙ runs m (suc i) ps (omega arith)

pub consecutive_is : (ps : List Point) → all_new 1 ps ≡ consecutive ps
unfolding consecutive news is_new among
consecutive_is [] = refl
consecutive_is (p ∷ ps) = sym (runs (length ps) 0 (p ∷ ps) (omega arith))

-- ---- anywhere

-- the points before i, the last first
abbrev seen : List Point → ℕ → List Point
seen ps zero = []
seen ps (suc i) = at ps i ∷ seen ps i

in_seen : (ps : List Point) (p : Point) (i : ℕ) → is_in p (seen ps i) ≡ among ps p 0 i
unfolding is_in among
in_seen ps p zero = refl
in_seen ps p (suc i) = rw (in_seen ps p i, zero-add i)

new_all : (back : ℕ) (ps : List Point) (i : ℕ) → i ≤ back → is_new back ps i ≡ not (is_in (at ps i) (seen ps i))
unfolding is_new
new_all back ps i h =
    let a : i - back ≡ 0 = omega arith in
    let b : i - 0 ≡ i = omega arith in
    rw (a, b, in_seen ps (at ps i) i)

appearances : (back m i : ℕ) (ps : List Point) → length ps ≤ back → i + m ≡ length ps
    → news back ps i ++ firsts (seen ps i) i (drop i ps) ≡ news back ps (length ps)
unfolding firsts news
appearances back zero i ps h e =
    let s : i ≡ length ps = omega arith in
    ap (λ (l : List Point). news back ps i ++ firsts (seen ps i) i l) (all_seen ps i s) ∙ append-nil (news back ps i) ∙ ap (news back ps) s
appearances back (suc m) i ps h e =
    let r = firsts (seen ps (suc i)) (suc i) (drop (suc i) ps) in
    ap (λ (l : List Point). news back ps i ++ firsts (seen ps i) i l) (next_point ps i (omega arith))
    ∙ one_more (is_in (at ps i) (seen ps i)) i (news back ps i) r
    ∙ ap (λ (b : Bool). (news back ps i ++ cond b (i ∷ []) []) ++ r) (sym (new_all back ps i (omega arith)))
    ∙ appearances back m (suc i) ps h (omega arith)

pub anywhere_is : (back : ℕ) (ps : List Point) → length ps ≤ back → all_new back ps ≡ anywhere ps
unfolding anywhere news
anywhere_is back ps h = sym (appearances back (length ps) 0 ps h (omega arith))

-- ---- the loop

module _ {back : ℕ} {ps : List Point} {out₀ : List ℕ} where
  pub none_yet : Listed back ps 0 out₀ 0 out₀
  unfolding news
  none_yet = record { count = refl; list = refl }

  pub listed_new : {i kept : ℕ} {out : List ℕ} → Listed back ps i out₀ kept out → is_new back ps i ≡ true → kept < length out₀
      → Listed back ps (i + 1) out₀ (kept + 1) (set out kept i)
  unfolding news
  listed_new {i} {kept} {out} w e h =
      let ks = news back ps i in
      record {
        count = rw (add-one i, e) (omega (arith, length-append ks (i ∷ []), w.count));
        list = rw (add-one i, e, w.list, w.count) (over_more ks out₀ i (omega (arith, w.count)));
      }

  pub listed_old : {i kept : ℕ} {out : List ℕ} → Listed back ps i out₀ kept out → is_new back ps i ≡ false → Listed back ps (i + 1) out₀ kept out
  unfolding news
  listed_old {i} {kept} {out} w e = record { count = rw (add-one i, e, append-nil) w.count; list = rw (add-one i, e, append-nil) w.list }
