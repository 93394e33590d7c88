-- The loops over a ring table: the rings so far and those that follow. Assumes nothing.
use mathlib.Core.Path.{◌≡◌, refl, sym, ap, ◌∙◌, subst}
use mathlib.Core.Bool.{true}
use mathlib.Core.List.{List, [], ◌∷◌, ◌++◌, append_assoc, append-nil}
use Prim.Native.Nat.{ℕ, ◌+◌, ◌-◌, ◌≤◌, ◌<◌}
use native.Mathlib.Numerals.{add-one}
use native.Mathlib.Omega.{arith}
use lib.ListN.{length, drop, get_or, length-append, length-drop}
use lib.Seq.{drop-cons}
use Rattle.rule.specs.Plain.{indices}
use Rattle.rule.specs.Rings.{rises, last_or, rings_from}
use Rattle.laws.proofs.Rings.{rises_cons, rises_last}
use Rattle.ring_reasons.specs.Table.{Cuts}

-- `past` are the ends of k rings, which end at lo, and the others rise from there to n
pub record Cut (ends : List ℕ) (n : ℕ) (past : List ℕ) (k lo : ℕ) : Type 0 where
  pub number : length past ≡ k
  pub cut : past ++ drop k ends ≡ ends
  pub rise : rises lo (drop k ends) ≡ true
  pub last : last_or lo (drop k ends) ≡ n

pub cut_start : {ends : List ℕ} {n : ℕ} → Cuts n ends → Cut ends n [] 0 0
cut_start c = record { number = refl; cut = refl; rise = c.rise; last = c.last }

module _ {ends : List ℕ} {n : ℕ} {past : List ℕ} {k lo : ℕ} (c : Cut ends n past k lo) where
  pub cut_end : length ends ≤ k → (past ≡ ends) × (lo ≡ n)
  cut_end h = go (drop k ends) (omega (arith, length-drop k ends)) c.cut c.last
    where
      go : (l : List ℕ) → length l ≤ 0 → past ++ l ≡ ends → last_or lo l ≡ n → (past ≡ ends) × (lo ≡ n)
      go [] g e f = (sym (append-nil past) ∙ e, f)
      go (x ∷ l) g e f = absurd (omega arith)

  module _ (h : k < length ends) where
    -- the next ring ends at hi
    abbrev hi : ℕ
    hi = get_or ends k 0

    pub next_is : drop k ends ≡ get_or ends k 0 ∷ drop (k + 1) ends
    next_is = drop-cons ends k 0 h ∙ ap (λ (j : ℕ). get_or ends k 0 ∷ drop j ends) (sym (add-one k))

    pub next_rings : rings_from lo (drop k ends) ≡ indices lo (get_or ends k 0 - lo) ∷ rings_from (get_or ends k 0) (drop (k + 1) ends)
    unfolding rings_from
    next_rings = ap (rings_from lo) next_is

    next_rises : (lo ≤ hi) × (rises hi (drop (k + 1) ends) ≡ true)
    next_rises = rises_cons lo hi (drop (k + 1) ends) (subst (λ (l : List ℕ). rises lo l ≡ true) next_is c.rise)

    pub next_cut : Cut ends n (past ++ (get_or ends k 0 ∷ [])) (k + 1) (get_or ends k 0)
    next_cut = record {
      number = length-append past (hi ∷ []) ∙ ap (λ (j : ℕ). j + 1) c.number;
      cut = append_assoc past (hi ∷ []) (drop (k + 1) ends) ∙ ap (λ (l : List ℕ). past ++ l) (sym next_is) ∙ c.cut;
      rise = next_rises.1;
      last = ap (λ (l : List ℕ). last_or lo l) (sym next_is) ∙ c.last;
    }

    pub next_from : lo ≤ get_or ends k 0
    next_from = next_rises.0

    pub next_to : get_or ends k 0 ≤ n
    next_to = omega (arith, rises_last hi (drop (k + 1) ends) next_rises.1, next_cut.last)
