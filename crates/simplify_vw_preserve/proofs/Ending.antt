-- The table of what is kept. Assumes nothing.
use mathlib.Core.Path.{◌≡◌, refl, sym, ap, ◌∙◌, subst}
use mathlib.Core.List.{List, [], ◌∷◌, ◌++◌, map, map-append}
use Prim.Native.Nat.{ℕ, ◌+◌, ◌≤◌, ◌<◌}
use native.Mathlib.Nat.{sub-zero}
use native.Mathlib.Omega.{arith}
use lib.ListN.{length, get_or, set, length-append, length-map, length-set}
use Rattle.rule.specs.Rings.{ends_from}
use Rattle.rule.specs.Whole.{over}
use Rattle.layout.specs.declared.Layout.{Layout}
use Rattle.laws.proofs.Over.{over_more}
use Rattle.links.specs.Words.{mark_at}
use Rattle.links.specs.Ring.{kept_from, unmarked, Rings}
use Rattle.links.proofs.Rings.{unmarked_append}
use Rattle.ring_reasons.proofs.Cut.{Cut, next_cut}
use Rattle.simplify_vw_preserve.specs.Calls.{count_below}

-- of rings from lo on, where so many are kept before
ends_from_lem : (ws : List ℕ) (m : Layout) (lo end : ℕ) (ends : List ℕ) (kss : List (List ℕ)) → Rings ws m lo end ends kss
    → ends_from (count_below ws m lo) kss ≡ map (count_below ws m) ends
unfolding ends_from
ends_from_lem ws m lo end [] [] h = refl
ends_from_lem ws m lo end [] (ks ∷ kss) h = absurd h
ends_from_lem ws m lo end (hi ∷ his) [] h = absurd h
ends_from_lem ws m lo end (hi ∷ his) (ks ∷ kss) h =
    let e : count_below ws m lo + length ks ≡ count_below ws m hi = sum in
    rw e (ap (λ (l : List ℕ). count_below ws m hi ∷ l) (ends_from_lem ws m hi end his kss h.1))
  where
    sum : count_below ws m lo + length ks ≡ count_below ws m hi
    sum =
        let a = unmarked_append ws m 0 lo hi (omega arith) h.0.from in
        let b : unmarked ws m 0 hi ≡ kept_from (mark_at ws m) 0 hi = ap (kept_from (mark_at ws m) 0) (sub-zero hi) in
        let c : unmarked ws m 0 lo ≡ kept_from (mark_at ws m) 0 lo = ap (kept_from (mark_at ws m) 0) (sub-zero lo) in
        ap (λ (x : ℕ). count_below ws m lo + x) (ap length h.0.kept)
        ∙ sym (ap length (sym b ∙ a ∙ ap (λ (l : List ℕ). l ++ unmarked ws m lo hi) c) ∙ length-append (kept_from (mark_at ws m) 0 lo) (unmarked ws m lo hi))

pub ends_kept : (ws : List ℕ) (m : Layout) (ends : List ℕ) (kss : List (List ℕ)) → Rings ws m 0 m.points ends kss → ends_from 0 kss ≡ map (count_below ws m) ends
ends_kept ws m ends kss h =
    let e : count_below ws m 0 ≡ 0 = (unfold kept_from in refl) in
    subst (λ (n : ℕ). ends_from n kss ≡ map (count_below ws m) ends) e (ends_from_lem ws m 0 m.points ends kss h)

-- the ends of the first k rings are listed
pub record Ending (ws : List ℕ) (m : Layout) (rings out : List ℕ) (out' : List ℕ) (k : ℕ) : Type 0 where
  pub lo : ℕ
  pub past : List ℕ
  pub cut : Cut rings m.points past k lo
  pub size : length out' ≡ length out
  pub held : out' ≡ over (map (count_below ws m) past) out

module _ {ws : List ℕ} {m : Layout} {rings out : List ℕ} where
  module _ {out' : List ℕ} {k : ℕ} (s : Ending ws m rings out out' k) where
    pub ending_more : k < length rings → length rings ≤ length out → {r : ℕ} → r ≡ count_below ws m (get_or rings k 0) → Ending ws m rings out (set out' k r) (k + 1)
    ending_more h room {r} e = record {
      lo = get_or rings k 0;
      past = s.past ++ (get_or rings k 0 ∷ []);
      cut = next_cut s.cut h;
      size = length-set out' k r ∙ s.size;
      held =
          let f = count_below ws m in
          let n : length (map f s.past) ≡ k = length-map s.past f ∙ s.cut.number in
          rw (s.held, e, map-append f s.past (get_or rings k 0 ∷ []))
          (subst (λ (j : ℕ). set (over (map f s.past) out) j (f (get_or rings k 0)) ≡ over (map f s.past ++ (f (get_or rings k 0) ∷ [])) out) n
          (over_more (map f s.past) out (f (get_or rings k 0)) (omega arith)));
    }
