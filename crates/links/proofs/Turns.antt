-- The loop of `link`: the points so far have the links of a ring of which every point is kept. Assumes nothing.
use mathlib.Core.Path.{◌≡◌, refl, sym, ◌∙◌, subst}
use mathlib.Core.Bool.{Bool, true, false, cond}
use mathlib.Core.List.{List}
use mathlib.Core.Logic.{◌⊎◌, inl, inr}
use Prim.Native.Nat.{ℕ, ◌+◌, ◌-◌, ◌≤◌, ◌<◌}
use native.Mathlib.Decide.{ℕ_discrete}
use native.Mathlib.Omega.{arith}
use lib.Dec.{ltb}
use borrow.Author.Tests.{ltb-true, ltb-false}
use Rattle.layout.specs.declared.Layout.{Layout}
use Rattle.rule.specs.Plain.{indices}
use Rattle.links.specs.Words.{HasLinks, previous_at, next_at, mark_at, linked_as, OnlyLinks}
use Rattle.links.specs.Ring.{In, Then, Linked}
use Rattle.links.specs.Calls.{back, ahead, Joined}
use Rattle.links.proofs.Marks.{kept_all, indices_in, in_indices}
use Rattle.links.proofs.Memory.{only_self, only_then, linked_previous, linked_next, linked_mark, linked_others, linked_only}

-- the links of point i are those of a whole ring from lo to hi
pub record Whole (previous next mark : ℕ → ℕ) (lo hi n i : ℕ) : Type 0 where
  pub behind : previous i ≡ back lo n i
  pub before : next i ≡ ahead hi n i
  pub clear : mark i ≡ 0

abbrev WholeAt : List ℕ → Layout → ℕ → ℕ → ℕ → Type 0
WholeAt ws m lo hi i = Whole (previous_at ws m) (next_at ws m) (mark_at ws m) lo hi m.points i

pub back_small : (lo n i : ℕ) → i ≤ n → back lo n i ≤ n
back_small lo n i h = go (ltb lo i)
  where
    go : (b : Bool) → cond b (i - 1) n ≤ n
    go true = omega arith
    go false = omega arith

pub ahead_small : (hi n i : ℕ) → i < n → ahead hi n i ≤ n
ahead_small hi n i h = go (ltb (i + 1) hi)
  where
    go : (b : Bool) → cond b (i + 1) n ≤ n
    go true = omega arith
    go false = omega arith

-- ---- points with such links are a ring

module _ {previous next mark : ℕ → ℕ} {lo hi n : ℕ} (from : lo ≤ hi) (to : hi ≤ n) (w : (i : ℕ) → lo ≤ i → i < hi → Whole previous next mark lo hi n i) where
  abbrev ks : List ℕ
  ks = indices lo (hi - lo)

  inside : (i : ℕ) → In ks i → (lo ≤ i) × (i < hi)
  inside i g = let p = indices_in lo (hi - lo) i g in (p.0, omega (arith, p.1))

  here : (i : ℕ) → lo ≤ i → i < hi → In ks i
  here i p q = in_indices lo (hi - lo) i p (omega arith)

  one : (i j : ℕ) → lo ≤ i → j ≡ i + 1 → j < hi → Then ks i j
  one i j p e q = record { from = here i p (omega arith); to = here j (omega arith) q; up = omega arith; none = λ k a b g. omega arith }

  bef : (i : ℕ) → In ks i → (b : Bool) → ltb lo i ≡ b → (previous i ≡ cond b (i - 1) n)
      → ((previous i ≡ n) × ((k : ℕ) → k < i → In ks k → ⊥)) ⊎ Then ks (previous i) i
  bef i g true t e = inr (subst (λ (x : ℕ). Then ks x i) (sym e) (one (i - 1) i (omega (arith, ltb-true lo i t)) (omega (arith, ltb-true lo i t)) (inside i g).1))
  bef i g false t e = inl (e, λ k l q. omega (arith, ltb-false lo i t, (inside k q).0))

  aft : (i : ℕ) → In ks i → (b : Bool) → ltb (i + 1) hi ≡ b → (next i ≡ cond b (i + 1) n)
      → ((next i ≡ n) × ((k : ℕ) → i < k → In ks k → ⊥)) ⊎ Then ks i (next i)
  aft i g true t e = inr (subst (Then ks i) (sym e) (one i (i + 1) (inside i g).0 refl (ltb-true (i + 1) hi t)))
  aft i g false t e = inl (e, λ k l q. omega (arith, ltb-false (i + 1) hi t, (inside k q).1))

  whole_ring : Linked previous next mark lo hi n ks
  whole_ring = record {
    from = from;
    to = to;
    kept = sym (kept_all mark lo (hi - lo) (λ i p q. (w i p (omega arith)).clear));
    before = λ i g. let p = inside i g in bef i g (ltb lo i) refl (w i p.0 p.1).behind;
    after = λ i g. let p = inside i g in aft i g (ltb (i + 1) hi) refl (w i p.0 p.1).before;
  }

-- ---- the loop

-- the points from lo to i have such links, and no other point's changed
pub record Linking (ws : List ℕ) (m : Layout) (lo hi : ℕ) (ws' : List ℕ) (i : ℕ) : Type 0 where
  pub so_far : (k : ℕ) → lo ≤ k → k < i → WholeAt ws' m lo hi k
  pub only : OnlyLinks ws m lo hi ws'

pub linking_start : (ws : List ℕ) (m : Layout) (lo hi : ℕ) → Linking ws m lo hi ws lo
linking_start ws m lo hi = record { so_far = λ k p q. absurd (omega arith); only = only_self ws m lo hi }

module _ {ws : List ℕ} {m : Layout} {lo hi : ℕ} {ws' : List ℕ} {i : ℕ} (s : Linking ws m lo hi ws' i) (to : hi ≤ m.points) where
  pub linking_more : HasLinks m ws' → lo ≤ i → i < hi → {p q : ℕ} → p ≡ back lo m.points i → q ≡ ahead hi m.points i → {ws'' : List ℕ}
      → ws'' ≡ linked_as ws' m i p q → Linking ws m lo hi ws'' (i + 1)
  linking_more room low l {p} {q} ep eq e = subst (λ (x : List ℕ). Linking ws m lo hi x (i + 1)) (sym e) (record {
    so_far = λ k a b. at k a b (ℕ_discrete k i);
    only = only_then s.only (linked_only ws' m i p q lo hi low l to);
  })
    where
      here : i < m.points
      here = omega arith

      at : (k : ℕ) → lo ≤ k → k < i + 1 → Dec (k ≡ i) → WholeAt (linked_as ws' m i p q) m lo hi k
      at k a b (yes z) = subst (WholeAt (linked_as ws' m i p q) m lo hi) (sym z) (record {
        behind = linked_previous ws' m i p q room here ∙ ep;
        before = linked_next ws' m i p q room here ∙ eq;
        clear = linked_mark ws' m i p q room here;
      })
      at k a b (no ne) =
          let o = linked_others ws' m i p q k (omega arith) here ne in
          let f = s.so_far k a (omega (arith, ne)) in
          record { behind = o.previous ∙ f.behind; before = o.next ∙ f.before; clear = o.mark ∙ f.clear }

  pub linking_end : lo ≤ hi → hi ≤ i → Joined ws m lo hi ws'
  linking_end from l = record { ring = whole_ring from to (λ k p q. s.so_far k p (omega arith)); only = s.only }
