-- The rings of a polygon: one behind the other, they stay while another is changed, and the points without a mark are all that they keep.
-- Assumes nothing.
use mathlib.Core.Path.{◌≡◌, sym, ap, ◌∙◌, subst}
use mathlib.Core.List.{List, [], ◌∷◌, ◌++◌}
use Prim.Native.Nat.{ℕ, ◌+◌, ◌-◌, ◌≤◌, ◌<◌}
use native.Mathlib.Decide.{dec_lt}
use native.Mathlib.Nat.{sub-zero}
use native.Mathlib.Omega.{arith}
use Rattle.layout.specs.declared.Layout.{Layout}
use Rattle.rule.specs.Rings.{joined}
use Rattle.links.specs.Words.{next_at, mark_at, Starts, SameLinks}
use Rattle.links.specs.Ring.{kept_from, unmarked, all_unmarked, Line, Rings}
use Rattle.links.proofs.Marks.{kept_append}
use Rattle.links.proofs.Ring.{ring_in, in_ring, is_next}
use Rattle.links.proofs.Memory.{ring_same}

pub rings_from_lem : (ws : List ℕ) (m : Layout) (lo end : ℕ) (his : List ℕ) (kss : List (List ℕ)) → Rings ws m lo end his kss → lo ≤ end
rings_from_lem ws m lo end [] [] h = omega arith
rings_from_lem ws m lo end [] (ks ∷ kss) h = absurd h
rings_from_lem ws m lo end (hi ∷ his) [] h = absurd h
rings_from_lem ws m lo end (hi ∷ his) (ks ∷ kss) h = omega (arith, h.0.from, rings_from_lem ws m hi end his kss h.1)

pub rings_same : (ws ws' : List ℕ) (m : Layout) (lo end : ℕ) (his : List ℕ) (kss : List (List ℕ)) → ((i : ℕ) → lo ≤ i → i < end → SameLinks ws m ws' i)
    → Rings ws m lo end his kss → Rings ws' m lo end his kss
rings_same ws ws' m lo end [] [] e h = h
rings_same ws ws' m lo end [] (ks ∷ kss) e h = absurd h
rings_same ws ws' m lo end (hi ∷ his) [] e h = absurd h
rings_same ws ws' m lo end (hi ∷ his) (ks ∷ kss) e h = (
  ring_same (λ i p q. e i p (omega (arith, rings_from_lem ws m hi end his kss h.1))) h.0,
  rings_same ws ws' m hi end his kss (λ i p q. e i (omega (arith, h.0.from)) q) h.1,
)

pub rings_append : (ws : List ℕ) (m : Layout) (lo mid end : ℕ) (his : List ℕ) (kss : List (List ℕ)) (his' : List ℕ) (kss' : List (List ℕ))
    → Rings ws m lo mid his kss → Rings ws m mid end his' kss' → Rings ws m lo end (his ++ his') (kss ++ kss')
rings_append ws m lo mid end [] [] his' kss' h g = subst (λ (x : ℕ). Rings ws m x end his' kss') (sym h) g
rings_append ws m lo mid end [] (ks ∷ kss) his' kss' h g = absurd h
rings_append ws m lo mid end (hi ∷ his) [] his' kss' h g = absurd h
rings_append ws m lo mid end (hi ∷ his) (ks ∷ kss) his' kss' h g = (h.0, rings_append ws m hi mid end his kss his' kss' h.1 g)

pub unmarked_append : (ws : List ℕ) (m : Layout) (lo mid hi : ℕ) → lo ≤ mid → mid ≤ hi → unmarked ws m lo hi ≡ unmarked ws m lo mid ++ unmarked ws m mid hi
unmarked_append ws m lo mid hi p q =
    let e : hi - lo ≡ (mid - lo) + (hi - mid) = omega arith in
    let g : lo + (mid - lo) ≡ mid = omega arith in
    ap (kept_from (mark_at ws m) lo) e ∙ kept_append (mark_at ws m) lo (mid - lo) (hi - mid)
    ∙ ap (λ (i : ℕ). kept_from (mark_at ws m) lo (mid - lo) ++ kept_from (mark_at ws m) i (hi - mid)) g

pub rings_kept : (ws : List ℕ) (m : Layout) (lo end : ℕ) (his : List ℕ) (kss : List (List ℕ)) → Rings ws m lo end his kss → joined kss ≡ unmarked ws m lo end
unfolding joined kept_from
rings_kept ws m lo end [] [] h = let e : end - lo ≡ 0 = omega arith in rw e
rings_kept ws m lo end [] (ks ∷ kss) h = absurd h
rings_kept ws m lo end (hi ∷ his) [] h = absurd h
rings_kept ws m lo end (hi ∷ his) (ks ∷ kss) h =
    ap (λ (l : List ℕ). l ++ joined kss) h.0.kept ∙ ap (λ (l : List ℕ). unmarked ws m lo hi ++ l) (rings_kept ws m hi end his kss h.1)
    ∙ sym (unmarked_append ws m lo hi end h.0.from (rings_from_lem ws m hi end his kss h.1))

-- all rings together, and a line, keep all points without a mark
pub rings_all : (ws : List ℕ) (m : Layout) (his : List ℕ) (kss : List (List ℕ)) → Rings ws m 0 m.points his kss → joined kss ≡ all_unmarked ws m
rings_all ws m his kss h = rings_kept ws m 0 m.points his kss h ∙ ap (kept_from (mark_at ws m) 0) (sub-zero m.points)

pub line_all : (ws : List ℕ) (m : Layout) {ks : List ℕ} → Line ws m ks → ks ≡ all_unmarked ws m
line_all ws m h = h.kept ∙ ap (kept_from (mark_at ws m) 0) (sub-zero m.points)

-- ---- present segments

-- no point is kept between the ends of one
pub none_between : (ws : List ℕ) (m : Layout) (lo : ℕ) (his : List ℕ) (kss : List (List ℕ)) → Rings ws m lo m.points his kss
    → (i : ℕ) → lo ≤ i → i < m.points → Starts ws m i → (k : ℕ) → i < k → k < next_at ws m i → mark_at ws m k ≡ 0 → ⊥
none_between ws m lo [] [] h i p q s k a b e = omega arith
none_between ws m lo [] (ks ∷ kss) h i p q s k a b e = absurd h
none_between ws m lo (hi ∷ his) [] h i p q s k a b e = absurd h
none_between ws m lo (hi ∷ his) (ks ∷ kss) h i p q s k a b e = go (dec_lt i hi) (λ w. none_between ws m hi his kss h.1 i w q s k a b e)
  where
    go : Dec (i < hi) → (hi ≤ i → ⊥) → ⊥
    go (yes w) rec =
        let t = is_next h.0 (in_ring h.0 i p w s.kept) s.ahead in
        t.none k a b (in_ring h.0 k (omega arith) (omega (arith, (ring_in h.0 (next_at ws m i) t.to).high)) e)
    go (no w) rec = rec (omega arith)
