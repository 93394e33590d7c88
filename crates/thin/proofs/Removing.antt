-- The law of a removal, for both rules, for whole calls and for slots: a picked point is unlinked, the scores of its two neighbours are put on, and the
-- state is that of the kept points without it. Assumes nothing.
use mathlib.Core.Path.{◌≡◌, sym, ap, ◌∙◌, subst}
use Rattle.std.specs.Prelude.{Option}
use mathlib.Core.List.{List}
use mathlib.Core.Logic.{◌⊎◌, inl, inr}
use Prim.Native.Nat.{ℕ, suc, ◌+◌, ◌-◌, ◌≤◌, ◌<◌}
use native.Mathlib.Decide.{ℕ_discrete, dec_lt}
use native.Mathlib.Omega.{arith}
use lib.ListN.{length, get_or}
use lib.Ieee.{Float, nan}
use Rattle.rule.specs.Grid.{Point, half}
use Rattle.rule.specs.Plain.{without, area_at}
use Rattle.laws.proofs.Kept.{Up}
use Rattle.layout.specs.declared.Layout.{Layout}
use Rattle.layout.specs.Layout.{Room}
use Rattle.vscore.specs.declared.VScore.{VScore}
use Rattle.vscore.specs.Scale.{Faithful}
use Rattle.scores.specs.Memory.{Framed}
use Rattle.scores.proofs.Scores.{proper_of}
use Rattle.scores.proofs.Memory.{framed_then}
use Rattle.links.specs.Words.{previous_at, next_at, unlinked, SameLinks, OnlyLinks}
use Rattle.links.specs.Ring.{In, Then, Triple, Ring}
use Rattle.links.proofs.Neighbours.{next_unique, previous_unique, in_old, not_in, bridge, then_old}
use Rattle.links.proofs.Ring.{ring_in, ring_below, ring_up, previous_is, next_is, is_previous, is_next}
use Rattle.links.proofs.Memory.{same_from, ring_same, unlinked_only, unlinked_ring}
use Rattle.layout.specs.Points.{PlacedIn}
use Rattle.scoring.specs.Plot.{priced, Points, ScoreOf, ScoredAs}
use Rattle.scoring.specs.Putting.{PutIs}
use Rattle.scoring.proofs.Putting.{put_framed, put_count}
use Rattle.thin.specs.Queue.{View, RingOf, Entry, QueueOf, But, Pick}
use Rattle.thin.specs.State.{most, Rep, less, Suits, Removed}
use Rattle.thin.proofs.Candidates.{triple_three, triple_fewer}
use Rattle.thin.proofs.Queue.{And, queue_less, queue_as, queue_same, queue_floats, queue_put}

-- ---- memory as long has the same room

pub room_as : {m : Layout} {fs fs' : List Float} {ws ws' : List ℕ} → length fs' ≡ length fs → length ws' ≡ length ws → Room m fs ws → Room m fs' ws'
room_as f w r = record { areas = omega (arith, r.areas); scores = r.scores; linked = omega (arith, r.linked) }

-- floats past the heap do not count
pub rep_floats : {v : View} {fs fs' : List Float} {ws : List ℕ} {m : Layout} {len : ℕ} → ((i : ℕ) → i < m.capacity → get_or fs' i nan ≡ get_or fs i nan)
    → Rep v fs ws m len → Rep v fs' ws m len
rep_floats {fs' = fs'} e r = record { ring = r.ring; queue = queue_floats fs' (λ i h. e i (omega (arith, r.room, r.fits))) r.queue; room = r.room; fits = r.fits }

-- ---- the score of a candidate is an entry

pub score_entry : (v : View) → Faithful v.scale → {us vs : List Float} {m : Layout} {a b c : ℕ} {value : ℕ → Float} {s : VScore} {ps : List Point}
    → PlacedIn us vs m ps → ScoreOf us vs m a b c value s → Triple v.kept a b c → v.lo ≤ b → b < v.hi
    → value (area_at ps a b c) ≡ v.scale.value (v.score a b c) → Entry v s
score_entry v φ {a = a} {b = b} {c = c} {s = s} {ps = ps} pl sc t lo hi e = record {
  proper = proper_of v.scale φ s (sc.area ps pl ∙ e);
  low = omega (arith, sc.current);
  high = omega (arith, sc.current);
  clear = λ k p q g. between k (omega (arith, sc.left)) (omega (arith, sc.right)) g (ℕ_discrete k b) (dec_lt k b) ∙ sym sc.current;
  exact = λ w. sc.area ps pl ∙ e ∙ ap v.scale.value (sym (λ i. v.score (sc.left i) (sc.current i) (sc.right i)));
}
  where
    between : (k : ℕ) → a < k → k < c → In v.kept k → Dec (k ≡ b) → Dec (k < b) → k ≡ b
    between k p q g (yes e) w = e
    between k p q g (no ne) (yes l) = absurd (t.low.none k p l g)
    between k p q g (no ne) (no l) = absurd (t.high.none k (omega (arith, ne, l)) q g)

-- ---- the new candidates are old ones, or those of the two neighbours

module _ (ws : List ℕ) (m : Layout) (lo hi : ℕ) (ks : List ℕ) (u : Up 0 ks) (s : VScore) (h : Ring ws m lo hi (without s.current ks))
    (v : Triple ks s.left s.current s.right) where
  abbrev Named : ℕ → ℕ → ℕ → Type 0
  Named = And (And (But ks s) m.points (previous_at ws m s.left) s.left s.right) m.points s.left s.right (next_at ws m s.right)

  candidates : (l c r : ℕ) → Triple (without s.current ks) l c r → Named l c r
  candidates l c r t = go (then_old s.current ks 0 u s.left s.right v l c t.low) (then_old s.current ks 0 u s.left s.right v c r t.high)
    where
      pl : l < m.points
      pl = ring_below h l t.low.from

      pc : c < m.points
      pc = ring_below h c t.low.to

      pr : r < m.points
      pr = ring_below h r t.high.to

      go : Then ks l c ⊎ ((l ≡ s.left) × (c ≡ s.right)) → Then ks c r ⊎ ((c ≡ s.left) × (r ≡ s.right)) → Named l c r
      go (inl a) (inl b) = inl (inl (record { low = a; high = b }, not_in 0 s.current ks u c t.low.to))
      go a (inr b) =
          let e : previous_at ws m s.left ≡ l = ap (previous_at ws m) (sym b.0) ∙ previous_is h t.low in
          inl (inr (record { left = omega (arith, pl); current = omega (arith, b.0, pc); right = omega (arith, b.1, pr) }, sym e, b.0, b.1))
      go (inr a) (inl b) =
          let e : next_at ws m s.right ≡ r = ap (next_at ws m) (sym a.1) ∙ next_is h t.high in
          inr (record { left = omega (arith, a.0, pl); current = omega (arith, a.1, pc); right = omega (arith, pr) }, a.0, a.1, sym e)

-- ---- an old entry is one of the view without s's point

old_entry : {v : View} {s : VScore} {ps : List Point} {g : ℕ → ℕ → ℕ → ℕ} {d : Option Float} → Up 0 v.kept
    → Triple v.kept s.left s.current s.right → Suits v s ps g d → (e : VScore) → Entry v e → Entry (less v s g) e
old_entry {v} {s} {ps} {g} u tr su e en = record {
  proper = en.proper;
  low = en.low;
  high = en.high;
  clear = λ k p q h. en.clear k p q (in_old s.current v.kept k h);
  exact = λ w. was w (then_old s.current v.kept 0 u s.left s.right tr e.left e.current w.low)
      (then_old s.current v.kept 0 u s.left s.right tr e.current e.right w.high);
}
  where
    out : (i : ℕ) → In (without s.current v.kept) i → i ≡ s.current → ⊥
    out = not_in 0 s.current v.kept u

    -- s's point would stand within e, and be its own
    within : e.left < s.current → s.current < e.right → s.current ≡ e.current
    within p q = en.clear s.current p q tr.low.to

    was : Triple (without s.current v.kept) e.left e.current e.right
        → Then v.kept e.left e.current ⊎ ((e.left ≡ s.left) × (e.current ≡ s.right))
        → Then v.kept e.current e.right ⊎ ((e.current ≡ s.left) × (e.right ≡ s.right))
        → e.area ≡ v.scale.value (g e.left e.current e.right)
    was w (inl a) (inl b) =
        en.exact (record { low = a; high = b })
        ∙ ap v.scale.value (sym (su.stay e.left e.current e.right
        (λ z. out e.right w.high.to (next_unique (subst (λ (i : ℕ). Then v.kept i e.right) z b) tr.low))
        (λ z. out e.left w.low.from (previous_unique (subst (Then v.kept e.left) z a) tr.high))))
    was w a (inr b) =
        absurd (omega (arith, b.0, tr.low.up, within (omega (arith, w.low.up, b.0, tr.low.up)) (omega (arith, b.1, tr.high.up))))
    was w (inr a) (inl b) =
        absurd (omega (arith, a.1, tr.high.up, within (omega (arith, a.0, tr.low.up)) (omega (arith, a.1, w.high.up, tr.high.up))))

-- ---- the law: by what `unlink`, `score_of` twice and `put` twice promise

module _ (s : VScore) (d : Option Float) {us vs : List Float} {fs : List Float} {ws : List ℕ} {m : Layout} {len : ℕ}
    (room : Room m fs ws) (le : len ≤ m.capacity) (points : Points m.points s.left s.current s.right)
    {ws₁ : List ℕ} (unlinks : ws₁ ≡ unlinked ws m s) {a b : ℕ} (before : a ≡ previous_at ws₁ m s.left) (after : b ≡ next_at ws₁ m s.right)
    {left right : Option VScore} (scores-left : ScoredAs us vs m a s.left s.right (priced d) left)
    (scores-right : ScoredAs us vs m s.left s.right b half right)
    {fs₂ : List Float} {ws₂ : List ℕ} {n₂ : ℕ} (puts-left : PutIs fs ws₁ m len fs₂ ws₂ n₂ left)
    {fs₃ : List Float} {ws₃ : List ℕ} {n₃ : ℕ} (puts-right : PutIs fs₂ ws₂ m n₂ fs₃ ws₃ n₃ right) where
  only : OnlyLinks ws m 0 m.points ws₁
  only = subst (OnlyLinks ws m 0 m.points) (sym unlinks)
      (unlinked_only ws m s 0 m.points (omega arith) (omega arith, points.left) (omega arith, points.current) (omega arith, points.right))

  counts_left : (n₂ ≤ m.capacity) × (n₂ ≤ suc len)
  counts_left = put_count puts-left le

  counts_right : (n₃ ≤ m.capacity) × (n₃ ≤ suc n₂)
  counts_right = put_count puts-right counts_left.0

  framed : Framed fs ws₁ m m.capacity fs₃ ws₃
  framed = framed_then (put_framed puts-left) (put_framed puts-right)

  same : (i : ℕ) → SameLinks ws₁ m ws₃ i
  same = same_from (λ j h. framed.after j (omega (arith, room.scores)))

  module _ (v : View) (ps : List Point) (g : ℕ → ℕ → ℕ → ℕ) (t : Float) (φ : Faithful v.scale) (placed : PlacedIn us vs m ps) (ring : RingOf v ws m)
      (pick : Pick v fs ws m len t s)
      (few : suc len + (length v.kept - 2) ≤ most m) (fits : most m ≤ m.capacity) (suits : Suits v s ps g d) where
    abbrev rest : List ℕ
    rest = without s.current v.kept

    ring₁ : Ring ws₁ m v.lo v.hi rest
    ring₁ = subst (λ (x : List ℕ). Ring x m v.lo v.hi rest) (sym unlinks) (unlinked_ring ws m s room.linked ring pick.stands)

    three : 3 ≤ length v.kept
    three = triple_three pick.stands (ring_up ring)

    fewer : suc (length rest) ≡ length v.kept
    fewer = triple_fewer pick.stands

    new : Then rest s.left s.right
    new = bridge s.current v.kept 0 (ring_up ring) s.left s.right pick.stands

    left_entry : (z : VScore) → Points m.points a s.left s.right → ScoreOf us vs m a s.left s.right (priced d) z → Entry (less v s g) z
    left_entry z p sc =
        let i = ring_in ring s.left pick.stands.low.from in
        let low : Then rest a s.left = subst (λ (x : ℕ). Then rest x s.left) (sym before) (is_previous ring₁ new.from (omega (arith, before, p.left))) in
        score_entry (less v s g) φ placed sc (record { low = low; high = new }) i.low i.high (suits.left a)

    right_entry : (z : VScore) → Points m.points s.left s.right b → ScoreOf us vs m s.left s.right b half z → Entry (less v s g) z
    right_entry z p sc =
        let i = ring_in ring s.right pick.stands.high.to in
        let high : Then rest s.right b = subst (Then rest s.right) (sym after) (is_next ring₁ new.to (omega (arith, after, p.right))) in
        score_entry (less v s g) φ placed sc (record { low = new; high = high }) i.low i.high (suits.right b)

    queue₁ : QueueOf (less v s g) fs ws₁ m len (But v.kept s)
    queue₁ = queue_same ws₁ (λ i p q. only.before i (omega (arith, room.scores))) (queue_as (old_entry (ring_up ring) pick.stands suits) pick.queue)

    queue₃ : QueueOf (less v s g) fs₃ ws₃ m n₃ (Triple rest)
    queue₃ =
        queue_less (λ l c r w. rw (before, after) (candidates ws₁ m v.lo v.hi v.kept (ring_up ring) s ring₁ pick.stands l c r w))
        (queue_put φ (λ z h. h.proper) scores-right puts-right (omega (arith, counts_left.1, three)) right_entry
        (queue_put φ (λ z h. h.proper) scores-left puts-left (omega (arith, three)) left_entry queue₁))

    removed_rep : Rep (less v s g) fs₃ ws₃ m n₃
    removed_rep = record {
      ring = ring_same (λ i p q. same i) ring₁;
      queue = queue₃;
      room = omega (arith, counts_left.1, counts_right.1, three, fewer);
      fits = fits;
    }

  pub removed_law : Removed us vs fs ws m len s d fs₃ ws₃ n₃
  removed_law = record {
    floats = framed.floats;
    before = λ i h. framed.before i h ∙ only.before i (omega (arith, room.scores));
    links = λ i h. framed.after i (omega (arith, room.scores)) ∙ ap (λ (x : List ℕ). get_or x i 0) unlinks;
    few = counts_right.0;
    rep = removed_rep;
  }
