-- The queue of scores: put to, popped from, and its first live score is the rule's candidate. Assumes nothing.
use mathlib.Core.Path.{◌≡◌, refl, sym, ◌∙◌, subst}
use mathlib.Core.Bool.{Bool, true, false, ◌&&◌, and-false}
use mathlib.Core.List.{List, [], ◌∷◌}
use mathlib.Core.Logic.{◌⊎◌, inl, inr, ⊎_elim}
use mathlib.Core.Option.{none, some}
use Rattle.std.specs.Prelude.{Option}
use Prim.Native.Nat.{ℕ, suc, ◌+◌, ◌*◌, ◌≤◌, ◌<◌}
use native.Mathlib.Omega.{arith}
use lib.Dec.{eqb}
use lib.ListN.{get_or}
use lib.Ieee.{Float, nan}
use borrow.Author.Tests.{eqb-true, eq-eqb, ne_eqb, le-ltb}
use Rattle.rule.specs.Plain.{Candidate, before, least}
use Rattle.laws.proofs.Kept.{Up}
use Rattle.laws.proofs.Least.{First, least_is}
use Rattle.layout.specs.declared.Layout.{Layout}
use Rattle.vscore.specs.declared.VScore.{VScore}
use Rattle.vscore.specs.Scale.{Scale, Faithful}
use Rattle.scores.specs.Memory.{score_at}
use Rattle.scores.specs.Scores.{Proper, Le}
use Rattle.scores.proofs.Scores.{key_is}
use Rattle.scores.proofs.Memory.{scores_same}
use Rattle.heap.specs.Order.{tick, count}
use Rattle.heap.specs.Heap.{Pushed, Popped}
use Rattle.heap.proofs.Order.{count_same, heap_same, counted}
use Rattle.heap.proofs.Heap.{first, pushed_all, popped_all}
use Rattle.links.specs.Ring.{Triple, Live}
use Rattle.links.proofs.Tests.{both}
use Rattle.links.proofs.Neighbours.{then_first, then_further}
use Rattle.links.proofs.Ring.{ring_up, alive_triple}
use Rattle.scoring.specs.Plot.{Points, ScoreOf, ScoredAs, scored, missing}
use Rattle.scoring.specs.Putting.{PutIs, pushes, full, nothing}
use Rattle.thin.specs.Queue.{View, RingOf, triple, Queue, QueueOf, candidate_of}
use Rattle.thin.proofs.Candidates.{mid_triple, triple_mid}

-- ---- the test of a triple

-- s is of the points l, c and r
pub record Of (l c r : ℕ) (s : VScore) : Type 0 where
  pub left : s.left ≡ l
  pub current : s.current ≡ c
  pub right : s.right ≡ r

triple_of : (l c r : ℕ) (s : VScore) → triple l c r s ≡ true → Of l c r s
unfolding triple
triple_of l c r s h =
    let a = both (eqb s.left l) (eqb s.current c && eqb s.right r) h in
    let b = both (eqb s.current c) (eqb s.right r) a.1 in
    record { left = eqb-true s.left l a.0; current = eqb-true s.current c b.0; right = eqb-true s.right r b.1 }

of_triple : (l c r : ℕ) (s : VScore) → Of l c r s → tick (triple l c r s) ≡ 1
unfolding triple
of_triple l c r s i = rw (eq-eqb s.left l i.left, eq-eqb s.current c i.current, eq-eqb s.right r i.right)

not_triple : (l c r : ℕ) (s : VScore) → (Of l c r s → ⊥) → tick (triple l c r s) ≡ 0
not_triple l c r s h = go (triple l c r s) refl
  where
    go : (b : Bool) → triple l c r s ≡ b → tick b ≡ 0
    go true e = absurd (h (triple_of l c r s e))
    go false e = refl

-- ---- put to, popped from

module _ {σ : Scale} {P : VScore → Type 0} {fs : List Float} {ws : List ℕ} {m : Layout} where
  pub queue_less : {len : ℕ} {All All' : ℕ → ℕ → ℕ → Type 0} → ((l c r : ℕ) → All' l c r → All l c r) → Queue σ P fs ws m len All → Queue σ P fs ws m len All'
  queue_less g q = record { each = q.each; order = q.order; all = λ l c r a. q.all l c r (g l c r a) }

  pub queue_as : {P' : VScore → Type 0} {len : ℕ} {All : ℕ → ℕ → ℕ → Type 0} → ((s : VScore) → P s → P' s) → Queue σ P fs ws m len All → Queue σ P' fs ws m len All
  queue_as {P'} g q = record { each = λ k l. g (score_at fs ws m k) (q.each k l); order = q.order; all = q.all }

  -- memory that is the same at the queue
  pub queue_same : {len : ℕ} {All : ℕ → ℕ → ℕ → Type 0} (ws' : List ℕ) → ((i : ℕ) → m.heap ≤ i → i < m.heap + 3 * len → get_or ws' i 0 ≡ get_or ws i 0)
      → Queue σ P fs ws m len All → Queue σ P fs ws' m len All
  queue_same {len} {All} ws' e q = record {
    each = λ k l. subst P (sym (same k l)) (q.each k l);
    order = heap_same (Le σ) len (score_at fs ws' m) (score_at fs ws m) same q.order;
    all = λ l c r a. omega (arith, q.all l c r a, count_same (triple l c r) len (score_at fs ws' m) (score_at fs ws m) same);
  }
    where
      same : (k : ℕ) → k < len → score_at fs ws' m k ≡ score_at fs ws m k
      same = scores_same fs ws fs ws' m len (λ k l. refl) e

  pub queue_floats : {len : ℕ} {All : ℕ → ℕ → ℕ → Type 0} (fs' : List Float) → ((i : ℕ) → i < len → get_or fs' i nan ≡ get_or fs i nan)
      → Queue σ P fs ws m len All → Queue σ P fs' ws m len All
  queue_floats {len} {All} fs' e q = record {
    each = λ k l. subst P (sym (same k l)) (q.each k l);
    order = heap_same (Le σ) len (score_at fs' ws m) (score_at fs ws m) same q.order;
    all = λ l c r a. omega (arith, q.all l c r a, count_same (triple l c r) len (score_at fs' ws m) (score_at fs ws m) same);
  }
    where
      same : (k : ℕ) → k < len → score_at fs' ws m k ≡ score_at fs ws m k
      same = scores_same fs ws fs' ws m len e (λ i p l. refl)

  module _ (φ : Faithful σ) (proper : (s : VScore) → P s → Proper σ s) {n : ℕ} {All : ℕ → ℕ → ℕ → Type 0} {fs' : List Float} {ws' : List ℕ} where
    pub queue_pop : {s : VScore} → Queue σ P fs ws m (suc n) All → Popped fs ws m n s fs' ws' → Queue σ P fs' ws' m n (λ l c r. All l c r × (Of l c r s → ⊥))
    queue_pop {s} q p = record {
      each = popped_all P p q.each;
      order = p.heap σ φ (λ k l. proper (score_at fs ws m k) (q.each k l)) q.order;
      all = λ l c r a. omega (arith, not_triple l c r s a.1, p.made (triple l c r), q.all l c r a.0);
    }

    queue_push : {s : VScore} → Queue σ P fs ws m n All → P s → Pushed fs ws m n s fs' ws' → Queue σ P fs' ws' m (suc n) (λ l c r. All l c r ⊎ Of l c r s)
    queue_push {s} q e p = record {
      each = pushed_all P p e q.each;
      order = p.heap σ φ (λ k l. proper (score_at fs ws m k) (q.each k l)) (proper s e) q.order;
      all = λ l c r. ⊎_elim (λ a. omega (arith, p.made (triple l c r), q.all l c r a)) (λ i. omega (arith, of_triple l c r s i, p.made (triple l c r)));
    }

-- the triples that All names, and that of a, b and c, if they are of the n points
abbrev pub And : (ℕ → ℕ → ℕ → Type 0) → ℕ → ℕ → ℕ → ℕ → ℕ → ℕ → ℕ → Type 0
And All n a b c l d r = All l d r ⊎ (Points n a b c × (l ≡ a) × (d ≡ b) × (r ≡ c))

-- The score of a, b and c, if they are points, is put on; there is room.
module _ {σ : Scale} {P : VScore → Type 0} {fs : List Float} {ws : List ℕ} {m : Layout} {n : ℕ} {All : ℕ → ℕ → ℕ → Type 0} {fs' : List Float} {ws' : List ℕ} {k : ℕ}
    (φ : Faithful σ) (proper : (s : VScore) → P s → Proper σ s) {us vs : List Float} {a b c : ℕ} {value : ℕ → Float} where
  pub queue_put : {r : Option VScore} → ScoredAs us vs m a b c value r → PutIs fs ws m n fs' ws' k r → n < m.capacity
      → ((s : VScore) → Points m.points a b c → ScoreOf us vs m a b c value s → P s) → Queue σ P fs ws m n All → Queue σ P fs' ws' m k (And All m.points a b c)
  queue_put (scored h s) (pushes p) room e q =
      subst (λ (x : ℕ). Queue σ P fs' ws' m x (And All m.points a b c)) (sym p.count)
      (queue_less (λ l d r. ⊎_elim (λ x. inl x) (λ x. inr (record { left = s.left ∙ sym x.1; current = s.current ∙ sym x.2; right = s.right ∙ sym x.3 })))
      (queue_push φ proper q (e _ h s) p.pushed))
  queue_put (scored h s) (full p u) room e q = absurd (omega arith)
  queue_put (missing h) (nothing u) room e q =
      subst (λ (x : ℕ). Queue σ P fs' ws' m x (And All m.points a b c)) (sym u.count)
      (subst (λ (x : List Float). Queue σ P x ws' m n (And All m.points a b c)) (sym u.floats)
      (subst (λ (x : List ℕ). Queue σ P fs x m n (And All m.points a b c)) (sym u.words)
      (queue_less (λ l d r. ⊎_elim (λ x. x) (λ x. absurd (h x.0))) q)))

-- ---- the rule's order

not_before : (d c : Candidate) → (c.score < d.score) ⊎ ((c.score ≡ d.score) × (c.current ≤ d.current)) → before d c ≡ false
unfolding before
not_before d c (inl h) = rw (le-ltb d.score c.score (omega arith), ne_eqb d.score c.score (λ z. omega arith))
not_before d c (inr h) =
    rw (le-ltb d.score c.score (omega arith), le-ltb d.current c.current h.1) (and-false (eqb d.score c.score))

-- the root of a queue that has every candidate is, if it is one, the rule's
module _ (v : View) (φ : Faithful v.scale) {fs : List Float} (ws : List ℕ) (m : Layout) {len : ℕ} (h : RingOf v ws m) (q : QueueOf v fs ws m len (Triple v.kept))
    (p : 0 < len) (a : Live ws m (score_at fs ws m 0)) where
  abbrev top : VScore
  top = score_at fs ws m 0

  pub root_triple : Triple v.kept top.left top.current top.right
  root_triple = alive_triple h (q.each 0 p).low (q.each 0 p).high a

  pub root_least : least v.score v.kept ≡ some (candidate_of v top)
  root_least =
      least_is v.score v.kept (candidate_of v top) (ring_up h)
      (triple_mid v.score 0 v.kept top.left top.current top.right (ring_up h) root_triple) none_before
    where
      none_before : First v.score v.kept (candidate_of v top)
      none_before d g =
          let t = mid_triple 0 (ring_up h) g in
          let w = counted (triple d.left d.current d.right) len (score_at fs ws m) (q.all d.left d.current d.right t) in
          let x = score_at fs ws m w.place in
          let i = triple_of d.left d.current d.right x w.passes in
          let tx : Triple v.kept x.left x.current x.right = rw (i.left, i.current, i.right) t in
          let e : v.scale.key x.area ≡ d.score =
          key_is v.scale φ ((q.each w.place w.below).exact tx) ∙ (λ j. v.score (i.left j) (i.current j) (i.right j)) ∙ sym g.scored in
          let e₀ : v.scale.key top.area ≡ v.score top.left top.current top.right = key_is v.scale φ ((q.each 0 p).exact root_triple) in
          not_before d (candidate_of v top)
          (⊎_elim (λ s. inl (omega (arith, s, e, e₀))) (λ s. inr (omega (arith, s.0, e, e₀), omega (arith, s.1, i.current)))
          (first v.scale len (score_at fs ws m) q.order w.place w.below))

-- an empty queue has no candidate
pub least_none : {σ : Scale} {P : VScore → Type 0} (f : ℕ → ℕ → ℕ → ℕ) {fs : List Float} {ws : List ℕ} {m : Layout} (ks : List ℕ) → Up 0 ks
    → Queue σ P fs ws m 0 (Triple ks) → least f ks ≡ none
unfolding least
least_none f [] u q = refl
least_none f (a ∷ []) u q = refl
least_none f (a ∷ b ∷ []) u q = refl
least_none f (a ∷ b ∷ c ∷ ks) u q =
    absurd (unfold count in
    omega (arith, q.all a b c (record { low = then_first 0 a b (c ∷ ks) u; high = then_further 0 a (b ∷ c ∷ ks) b c u (then_first (suc a) b c ks u.1) })))
