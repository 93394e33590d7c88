-- Links in lent memory: the words of one point written, memory that is the same where it counts, and a point taken out. Assumes nothing.
use mathlib.Core.Path.{◌≡◌, refl, sym, ap, ◌∙◌}
use mathlib.Core.List.{List}
use mathlib.Core.Logic.{◌⊎◌, inl, inr, ⊎_elim}
use Prim.Native.Nat.{ℕ, ◌+◌, ◌*◌, ◌≤◌, ◌<◌}
use native.Mathlib.Decide.{ℕ_discrete}
use native.Mathlib.Omega.{arith}
use lib.ListN.{get_or}
use Rattle.layout.specs.declared.Layout.{Layout}
use Rattle.layout.proofs.Words.{three_other, three_first, three_second, three_third}
use Rattle.rule.specs.Plain.{without}
use Rattle.vscore.specs.declared.VScore.{VScore}
use Rattle.links.specs.Words.{HasLinks, previous_at, next_at, mark_at, Starts, written, linked_as, unlinked, SameLinks, OnlyLinks}
use Rattle.links.specs.Ring.{Triple, Ring, Live}
use Rattle.links.proofs.Ring.{ring_below, linked_same, taken_out}

-- ---- memory that is the same where it counts

module _ {ws : List ℕ} {m : Layout} {ws' : List ℕ} where
  -- from the links on
  pub same_from : ((j : ℕ) → m.links ≤ j → get_or ws' j 0 ≡ get_or ws j 0) → (i : ℕ) → SameLinks ws m ws' i
  same_from e i = record {
    previous = e (m.links + i) (omega arith);
    next = e (m.links + m.points + i) (omega arith);
    mark = e (m.links + 2 * m.points + i) (omega arith);
  }

  -- at a ring's points
  pub ring_same : {lo hi : ℕ} {ks : List ℕ} → ((i : ℕ) → lo ≤ i → i < hi → SameLinks ws m ws' i) → Ring ws m lo hi ks → Ring ws' m lo hi ks
  ring_same e h = linked_same h (λ i p q. let s = e i p q in (s.previous, s.next, s.mark))

  pub starts_same : {i : ℕ} → SameLinks ws m ws' i → Starts ws' m i → Starts ws m i
  starts_same e s = record { kept = sym e.mark ∙ s.kept; ahead = omega (arith, e.next, s.ahead) }

  pub live_same : {s : VScore} → SameLinks ws m ws' s.current → Live ws m s → Live ws' m s
  live_same e a = record {
    left = a.left;
    current = a.current;
    right = a.right;
    unmarked = e.mark ∙ a.unmarked;
    behind = e.previous ∙ a.behind;
    ahead = e.next ∙ a.ahead;
  }

pub only_self : (ws : List ℕ) (m : Layout) (lo hi : ℕ) → OnlyLinks ws m lo hi ws
only_self ws m lo hi = record { others = λ i l w. record { previous = refl; next = refl; mark = refl }; before = λ j h. refl; after = λ j h. refl }

pub only_then : {ws ws' ws'' : List ℕ} {m : Layout} {lo hi : ℕ} → OnlyLinks ws m lo hi ws' → OnlyLinks ws' m lo hi ws'' → OnlyLinks ws m lo hi ws''
only_then f g = record {
  others = λ i l w.
      let a = f.others i l w in
      let b = g.others i l w in
      record { previous = b.previous ∙ a.previous; next = b.next ∙ a.next; mark = b.mark ∙ a.mark };
  before = λ j h. g.before j h ∙ f.before j h;
  after = λ j h. g.after j h ∙ f.after j h;
}

-- ---- the previous point of a, the next of b and the mark of c written

module _ (ws : List ℕ) (m : Layout) (a p b q c k : ℕ) where
  written_other : (j : ℕ) → (j ≡ m.links + a → ⊥) → (j ≡ m.links + m.points + b → ⊥) → (j ≡ m.links + 2 * m.points + c → ⊥)
      → get_or (written ws m a p b q c k) j 0 ≡ get_or ws j 0
  written_other = three_other ws (m.links + a) (m.links + m.points + b) (m.links + 2 * m.points + c) p q k

  record Written : Type 0 where
    previous : previous_at (written ws m a p b q c k) m a ≡ p
    next : next_at (written ws m a p b q c k) m b ≡ q
    mark : mark_at (written ws m a p b q c k) m c ≡ k

  written_is : HasLinks m ws → a < m.points → b < m.points → c < m.points → Written
  written_is room la lb lc = record {
    previous = three_first ws first second third p q k (omega arith) (λ e. omega arith) (λ e. omega arith);
    next = three_second ws first second third p q k (omega arith) (λ e. omega arith);
    mark = three_third ws first second third p q k (omega arith);
  }
    where
      first : ℕ
      first = m.links + a

      second : ℕ
      second = m.links + m.points + b

      third : ℕ
      third = m.links + 2 * m.points + c

-- ---- a point kept between two

module _ (ws : List ℕ) (m : Layout) (i p q : ℕ) where
  linked_at : (j : ℕ) → (j ≡ m.links + i → ⊥) → (j ≡ m.links + m.points + i → ⊥) → (j ≡ m.links + 2 * m.points + i → ⊥)
      → get_or (linked_as ws m i p q) j 0 ≡ get_or ws j 0
  linked_at = written_other ws m i p i q i 0

  pub linked_others : (k : ℕ) → k < m.points → i < m.points → (k ≡ i → ⊥) → SameLinks ws m (linked_as ws m i p q) k
  linked_others k g l ne = record {
    previous = linked_at (m.links + k) (λ e. ne (omega arith)) (λ e. omega arith) (λ e. omega arith);
    next = linked_at (m.links + m.points + k) (λ e. omega arith) (λ e. ne (omega arith)) (λ e. omega arith);
    mark = linked_at (m.links + 2 * m.points + k) (λ e. omega arith) (λ e. omega arith) (λ e. ne (omega arith));
  }

  pub linked_only : (lo hi : ℕ) → lo ≤ i → i < hi → hi ≤ m.points → OnlyLinks ws m lo hi (linked_as ws m i p q)
  linked_only lo hi a b to = record {
    others = λ k g w. linked_others k g (omega arith) (λ e. ⊎_elim (λ h. omega arith) (λ h. omega arith) w);
    before = λ j h. linked_at j (λ e. omega arith) (λ e. omega arith) (λ e. omega arith);
    after = λ j h. linked_at j (λ e. omega arith) (λ e. omega arith) (λ e. omega arith);
  }

  module _ (room : HasLinks m ws) (l : i < m.points) where
    pub linked_previous : previous_at (linked_as ws m i p q) m i ≡ p
    linked_previous = (written_is ws m i p i q i 0 room l l l).previous

    pub linked_next : next_at (linked_as ws m i p q) m i ≡ q
    linked_next = (written_is ws m i p i q i 0 room l l l).next

    pub linked_mark : mark_at (linked_as ws m i p q) m i ≡ 0
    linked_mark = (written_is ws m i p i q i 0 room l l l).mark

-- ---- s's point taken out

module _ (ws : List ℕ) (m : Layout) (s : VScore) where
  unlinked_at : (j : ℕ) → (j ≡ m.links + s.right → ⊥) → (j ≡ m.links + m.points + s.left → ⊥) → (j ≡ m.links + 2 * m.points + s.current → ⊥)
      → get_or (unlinked ws m s) j 0 ≡ get_or ws j 0
  unlinked_at = written_other ws m s.right s.left s.left s.right s.current 1

  -- only the links of its own ring may differ
  pub unlinked_only : (lo hi : ℕ) → hi ≤ m.points → (lo ≤ s.left) × (s.left < hi) → (lo ≤ s.current) × (s.current < hi) → (lo ≤ s.right) × (s.right < hi)
      → OnlyLinks ws m lo hi (unlinked ws m s)
  unlinked_only lo hi to pl pc pr = record {
    others = λ i l w. record {
      previous = unlinked_at (m.links + i) (λ e. out i w s.right pr (omega arith)) (λ e. omega arith) (λ e. omega arith);
      next = unlinked_at (m.links + m.points + i) (λ e. omega arith) (λ e. out i w s.left pl (omega arith)) (λ e. omega arith);
      mark = unlinked_at (m.links + 2 * m.points + i) (λ e. omega arith) (λ e. omega arith) (λ e. out i w s.current pc (omega arith));
    };
    before = λ j h. unlinked_at j (λ e. omega arith) (λ e. omega arith) (λ e. omega arith);
    after = λ j h. unlinked_at j (λ e. omega arith) (λ e. omega arith) (λ e. omega arith);
  }
    where
      out : (i : ℕ) → (i < lo) ⊎ (hi ≤ i) → (x : ℕ) → (lo ≤ x) × (x < hi) → i ≡ x → ⊥
      out i w x p e = ⊎_elim (λ h. omega (arith, p.0)) (λ h. omega (arith, p.1)) w

  -- a segment that is present then is the new one, or was there before
  pub unlinked_starts : HasLinks m ws → s.left < m.points → s.current < m.points → s.right < m.points → (i : ℕ) → i < m.points → Starts (unlinked ws m s) m i
      → ((i ≡ s.left) × (next_at (unlinked ws m s) m i ≡ s.right)) ⊎ (Starts ws m i × (next_at (unlinked ws m s) m i ≡ next_at ws m i))
  unlinked_starts room l c r i h st = go (ℕ_discrete i s.left) (ℕ_discrete i s.current)
    where
      now : Written ws m s.right s.left s.left s.right s.current 1
      now = written_is ws m s.right s.left s.left s.right s.current 1 room r l c

      go : Dec (i ≡ s.left) → Dec (i ≡ s.current)
          → ((i ≡ s.left) × (next_at (unlinked ws m s) m i ≡ s.right)) ⊎ (Starts ws m i × (next_at (unlinked ws m s) m i ≡ next_at ws m i))
      go (yes e) d = inl (e, ap (next_at (unlinked ws m s) m) e ∙ now.next)
      go (no nl) (yes e) = absurd (omega (arith, now.mark, ap (mark_at (unlinked ws m s) m) e, st.kept))
      go (no nl) (no nc) =
          let n : next_at (unlinked ws m s) m i ≡ next_at ws m i =
          unlinked_at (m.links + m.points + i) (λ e. omega arith) (λ e. nl (omega arith)) (λ e. omega arith) in
          let k : mark_at (unlinked ws m s) m i ≡ mark_at ws m i =
          unlinked_at (m.links + 2 * m.points + i) (λ e. omega arith) (λ e. omega arith) (λ e. nc (omega arith)) in
          inr (record { kept = sym k ∙ st.kept; ahead = omega (arith, n, st.ahead) }, n)

  module _ {lo hi : ℕ} {ks : List ℕ} (room : HasLinks m ws) (h : Ring ws m lo hi ks) (v : Triple ks s.left s.current s.right) where
    pub unlinked_ring : Ring (unlinked ws m s) m lo hi (without s.current ks)
    unlinked_ring =
        let l = ring_below h s.left v.low.from in
        let c = ring_below h s.current v.low.to in
        let r = ring_below h s.right v.high.to in
        let now = written_is ws m s.right s.left s.left s.right s.current 1 room (omega arith) (omega arith) (omega arith) in
        taken_out h s.left s.current s.right v now.previous
        (λ i g ne. unlinked_at (m.links + i) (λ e. ne (omega arith)) (λ e. omega arith) (λ e. omega arith)) now.next
        (λ i g ne. unlinked_at (m.links + m.points + i) (λ e. omega arith) (λ e. ne (omega arith)) (λ e. omega arith)) now.mark
        (λ i g ne. unlinked_at (m.links + 2 * m.points + i) (λ e. omega arith) (λ e. omega arith) (λ e. ne (omega arith)))
