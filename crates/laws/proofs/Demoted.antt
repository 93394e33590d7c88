-- What demotion comes to in the preserving rule in one ring, beside any others: who is demoted is the next to go. Assumes nothing.
--     none_demoted, still_one    at most one candidate is demoted: at first, and after a removal if before it
-- Of every state that the thinning of an increasing ring reaches:
--     ring_reaches       what the first n removals leave is such a state, and the removals go on from it
--     reached_rises      what is kept is increasing
--     one_demoted        at most one candidate is demoted
--     demoted_next       if one is, the next move removes it or stops
--     left_demoted       after a removal the left neighbour of what was removed is demoted, if the new segment crossed, and no other candidate
-- So it does not matter when demotions end:
--     demotion_unseen    the removals are the same if they never end
use mathlib.Core.Path.{◌≡◌, refl, sym, ap, ◌∙◌, subst}
use mathlib.Core.Bool.{Bool, true, false, cond, ◌&&◌, ◌||◌, true≢false, false≢true}
use mathlib.Core.List.{List, [], ◌∷◌, ◌++◌, tail-eq_of_cons-eq}
use mathlib.Core.Option.{Option, none, some}
use Prim.Native.Nat.{ℕ, zero, suc, ◌+◌, ◌≤◌, ◌<◌}
use native.Mathlib.Omega.{arith}
use lib.Dec.{eqb, ltb, leb}
use lib.ListN.{length}
use lib.Ieee.{Float}
use borrow.Author.Tests.{eqb-true, ne_eqb, ltb-false}
use Rattle.rule.specs.Grid.{Point}
use Rattle.rule.specs.Plain.{Candidate, before, better, least, without, leave, area_at}
use Rattle.rule.specs.Preserve.{Minima, member, score_of, score_within, crosses, Move, stop, remove, unless_few, move_of, move, demoted, ring_removals}
use Rattle.laws.specs.Times.{tick, times}
use Rattle.laws.proofs.Removals.{Given, Mid, least_mid, eqb_self, mid_times, without_times}
use Rattle.laws.proofs.Kept.{Up, up_without}
use Rattle.laws.proofs.Least.{First, least_first}
use Rattle.laws.proofs.RingRemovals.{followed, ring_suc}

-- ---- candidates, by their index

-- i is a candidate: it stands in the list between two others
pub record Inner (ks : List ℕ) (i : ℕ) : Type 0 where
  pub pre : List ℕ
  pub left : ℕ
  pub right : ℕ
  pub post : List ℕ
  pub split : ks ≡ pre ++ (left ∷ i ∷ right ∷ post)

-- at most one candidate is demoted
abbrev pub OneDemoted : List ℕ → List ℕ → Type 0
OneDemoted dem ks = (i j : ℕ) → Inner ks i → Inner ks j → member i dem ≡ true → member j dem ≡ true → i ≡ j

-- the same candidates are demoted
abbrev Agree : List ℕ → List ℕ → List ℕ → Type 0
Agree dem dem' ks = (i : ℕ) → Inner ks i → member i dem ≡ member i dem'

mid_inner : {f : ℕ → ℕ → ℕ → ℕ} {ks : List ℕ} {c : Candidate} → Mid f ks c → Inner ks c.current
mid_inner {f} {ks} {c} m = record { pre = m.pre; left = c.left; right = c.right; post = m.post; split = m.split }

-- with a score
module _ (f : ℕ → ℕ → ℕ → ℕ) {ks : List ℕ} {i : ℕ} (w : Inner ks i) where
  abbrev scored : Candidate
  scored = record { left = w.left; current = i; right = w.right; score = f w.left i w.right }

  scored_mid : Mid f ks scored
  scored_mid = record { pre = w.pre; post = w.post; split = w.split; scored = refl }

inner_times : {ks : List ℕ} {i : ℕ} → Inner ks i → 0 < times i ks
inner_times w = mid_times (scored_mid (λ a b c. 0) w)

inner_cons : {ks : List ℕ} {i : ℕ} (k : ℕ) → Inner ks i → Inner (k ∷ ks) i
inner_cons k w = record { pre = k ∷ w.pre; left = w.left; right = w.right; post = w.post; split = ap (λ (l : List ℕ). k ∷ l) w.split }

-- ---- without a candidate

up_past : (n l k : ℕ) (pre post : List ℕ) → Up n (pre ++ (l ∷ k ∷ post)) → n < k
up_past n l k [] post u = omega (arith, u.0, u.1.0)
up_past n l k (p ∷ pre) post u = omega (arith, up_past (suc p) l k pre post u.1, u.0)

without_mid : (n l k : ℕ) (pre post : List ℕ) → Up n (pre ++ (l ∷ k ∷ post)) → without k (pre ++ (l ∷ k ∷ post)) ≡ pre ++ (l ∷ post)
unfolding without
without_mid n l k [] post u = rw (ne_eqb k l (λ e. omega (arith, u.1.0)), eqb_self k)
without_mid n l k (p ∷ pre) post u =
    rw (ne_eqb k p (λ e. omega (arith, up_past (suc p) l k pre post u.1))) (ap (λ (x : List ℕ). p ∷ x) (without_mid (suc p) l k pre post u.1))

-- a candidate of the list without k, between l and r, is one of the list with it
inner_with : (l k r : ℕ) (pre post : List ℕ) (i : ℕ) → Inner (pre ++ (l ∷ r ∷ post)) i → Inner (pre ++ (l ∷ k ∷ r ∷ post)) i
inner_with l k r [] post i w = go w.pre w.split
  where
    go : (pre : List ℕ) → l ∷ r ∷ post ≡ pre ++ (w.left ∷ i ∷ w.right ∷ w.post) → Inner (l ∷ k ∷ r ∷ post) i
    go [] e = record { pre = l ∷ []; left = k; right = w.right; post = w.post; split = ap (λ (x : List ℕ). l ∷ k ∷ x) (tail-eq_of_cons-eq e) }
    go (x ∷ pre) e =
        record { pre = l ∷ k ∷ pre; left = w.left; right = w.right; post = w.post; split = ap (λ (x : List ℕ). l ∷ k ∷ x) (tail-eq_of_cons-eq e) }
inner_with l k r (p ∷ pre) post i w = go w.pre w.split (inner_with l k r pre post i)
  where
    head : (pre : List ℕ) → pre ++ (l ∷ r ∷ post) ≡ i ∷ w.right ∷ w.post → Inner (p ∷ (pre ++ (l ∷ k ∷ r ∷ post))) i
    head [] e =
        let h : l ≡ i = cc in
        record { pre = []; left = p; right = k; post = r ∷ post; split = ap (λ (x : ℕ). p ∷ x ∷ k ∷ r ∷ post) h }
    head (q ∷ []) e =
        let h : q ≡ i = cc in
        record { pre = []; left = p; right = l; post = k ∷ r ∷ post; split = ap (λ (x : ℕ). p ∷ x ∷ l ∷ k ∷ r ∷ post) h }
    head (q ∷ s ∷ pre) e =
        let h : q ≡ i = cc in
        record { pre = []; left = p; right = s; post = pre ++ (l ∷ k ∷ r ∷ post); split = ap (λ (x : ℕ). p ∷ x ∷ s ∷ (pre ++ (l ∷ k ∷ r ∷ post))) h }

    go : (front : List ℕ) → p ∷ (pre ++ (l ∷ r ∷ post)) ≡ front ++ (w.left ∷ i ∷ w.right ∷ w.post)
        → (Inner (pre ++ (l ∷ r ∷ post)) i → Inner (pre ++ (l ∷ k ∷ r ∷ post)) i) → Inner (p ∷ (pre ++ (l ∷ k ∷ r ∷ post))) i
    go [] e f = head pre (tail-eq_of_cons-eq e)
    go (x ∷ front) e f =
        inner_cons p (f (record { pre = front; left = w.left; right = w.right; post = w.post; split = tail-eq_of_cons-eq e }))

-- So a candidate of an increasing list without another is one of the list,
inner_before : {f : ℕ → ℕ → ℕ → ℕ} {c : Candidate} (n : ℕ) (ks : List ℕ) → Up n ks → Mid f ks c → (i : ℕ) → Inner (without c.current ks) i → Inner ks i
inner_before {f} {c} n ks u m i w =
    let e = without_mid n c.left c.current m.pre (c.right ∷ m.post) (subst (Up n) m.split u) in
    let v = subst (λ (l : List ℕ). Inner l i) (ap (without c.current) m.split ∙ e) w in
    subst (λ (l : List ℕ). Inner l i) (sym m.split) (inner_with c.left c.current c.right m.pre m.post i v)

up_out : (n x : ℕ) (ks : List ℕ) → Up n ks → x < n → times x ks ≡ 0
up_out n x [] u h = refl
up_out n x (k ∷ ks) u h = rw (ne_eqb x k (λ e. omega (arith, u.0))) (omega (arith, up_out (suc k) x ks u.1 (omega (arith, u.0))))

up_once : (n x : ℕ) (ks : List ℕ) → Up n ks → times x ks ≤ 1
up_once n x [] u = omega arith
up_once n x (k ∷ ks) u = go (eqb x k) refl (up_once (suc k) x ks u.1)
  where
    go : (b : Bool) → eqb x k ≡ b → times x ks ≤ 1 → tick b + times x ks ≤ 1
    go true e r = omega (arith, up_out (suc k) x ks u.1 (omega (arith, eqb-true x k e)))
    go false e r = omega arith

up_gone : (n k : ℕ) (ks : List ℕ) → Up n ks → 0 < times k ks → times k (without k ks) ≡ 0
up_gone n k ks u h =
    let g : times k ks ≡ tick true + times k (without k ks) = rw eqb_self at (without_times k k ks h) in
    omega (arith, up_once n k ks u)

-- and that other one is gone.
inner_gone : {f : ℕ → ℕ → ℕ → ℕ} {c : Candidate} (n : ℕ) (ks : List ℕ) → Up n ks → Mid f ks c → Inner (without c.current ks) c.current → ⊥
inner_gone {f} {c} n ks u m w = omega (arith, up_gone n c.current ks u (mid_times m), inner_times w)

-- ---- the scores

score_demoted : (ps : List Point) (dem : List ℕ) (a b c : ℕ) → member b dem ≡ true → score_of ps dem a b c ≡ 0
unfolding score_of
score_demoted ps dem a b c e = rw e

zero_demoted : (ps : List Point) (dem : List ℕ) (a b c : ℕ) → score_of ps dem a b c ≡ 0 → member b dem ≡ true
unfolding score_of
zero_demoted ps dem a b c e = go (member b dem) e
  where
    go : (x : Bool) → cond x 0 (suc (area_at ps a b c)) ≡ 0 → x ≡ true
    go true h = refl
    go false h = absurd (omega arith)

before_score : (a b : Candidate) → before a b ≡ false → b.score ≤ a.score
unfolding before
before_score a b e = go (ltb a.score b.score) refl e
  where
    go : (x : Bool) → ltb a.score b.score ≡ x → (x || (eqb a.score b.score && ltb a.current b.current)) ≡ false → b.score ≤ a.score
    go true ex h = absurd (true≢false h)
    go false ex h = ltb-false a.score b.score ex

-- Where at most one candidate is demoted, and one is, the least is that one.
least_demoted : (ps : List Point) (dem ks : List ℕ) (c : Candidate) → OneDemoted dem ks → least (score_of ps dem) ks ≡ some c
    → (i : ℕ) → Inner ks i → member i dem ≡ true → c.current ≡ i
least_demoted ps dem ks c one e i w h =
    let f = score_of ps dem in
    let m : Mid f ks c = subst (Given (Mid f ks)) e (least_mid f ks) in
    let g : First f ks c = subst (Given (First f ks)) e (least_first f ks) in
    let s = before_score (scored f w) c (g (scored f w) (scored_mid f w)) in
    let z : c.score ≡ 0 = omega (arith, s, score_demoted ps dem w.left i w.right h) in
    one c.current i (mid_inner m) w (zero_demoted ps dem c.left c.current c.right (sym m.scored ∙ z)) h

-- At first none is demoted.
pub none_demoted : (ks : List ℕ) → OneDemoted [] ks
unfolding member
none_demoted ks i j v w g h = absurd (false≢true g)

-- ---- the demoted after a removal

member_without : (i k : ℕ) (dem : List ℕ) → member i dem ≡ false → member i (without k dem) ≡ false
unfolding member without
member_without i k [] h = refl
member_without i k (j ∷ dem) h = go (eqb i j) refl (eqb k j) h (member_without i k dem)
  where
    go : (x : Bool) → eqb i j ≡ x → (y : Bool) → (x || member i dem) ≡ false → (member i dem ≡ false → member i (without k dem) ≡ false)
        → member i (cond y dem (j ∷ without k dem)) ≡ false
    go true e y g r = absurd (true≢false g)
    go false e true g r = g
    go false e false g r = rw e (r g)

member_cons : (i k : ℕ) (dem : List ℕ) → member i dem ≡ false → member i (k ∷ dem) ≡ eqb i k
unfolding member
member_cons i k dem h = go (eqb i k)
  where
    go : (x : Bool) → (x || member i dem) ≡ x
    go true = refl
    go false = h

-- what is demoted once there is one more, or not,
member_more : (i k : ℕ) (crossed : Bool) (dem : List ℕ) → member i dem ≡ false → member i (cond crossed (k ∷ dem) dem) ≡ (crossed && eqb i k)
member_more i k true dem h = member_cons i k dem h
member_more i k false dem h = h

-- and by step 5: of an index that was not demoted
demoted_new : (c : Candidate) (crossed : Bool) (dem : List ℕ) (i : ℕ) → member i dem ≡ false → member i (demoted c crossed dem) ≡ (crossed && eqb i c.left)
unfolding demoted
demoted_new c crossed dem i h =
    member_more i c.left crossed (without c.left (without c.right dem))
    (member_without i c.left (without c.right dem) (member_without i c.right dem h))

-- ---- one move

-- a removal is of what `least` found
abbrev Picks : Option Candidate → Move → Type 0
Picks o stop = Unit {0}
Picks o (remove c crossed) = o ≡ some c

module _ (ps : List Point) (t : Float) (m : Minima) (others : List (List ℕ)) where
  move_picks : (dem ks : List ℕ) → Picks (least (score_of ps dem) ks) (move ps t m others dem ks)
  unfolding move move_of unless_few
  move_picks dem ks = go (least (score_of ps dem) ks)
    where
      unless : (c : Candidate) (b crossed : Bool) → Picks (some c) (cond b stop (remove c crossed))
      unless c true crossed = tt
      unless c false crossed = refl

      pick : (c : Candidate) (b : Bool)
          → Picks (some c) (elim b as (λ _. Move) [ true ↦ unless_few m (length ks) c (crosses ps c.left c.right (ks ∷ others)) | false ↦ stop ])
      pick c true =
          let x = crosses ps c.left c.right (ks ∷ others) in
          unless c (leb (length ks) m.first || (x && leb (length ks) m.second)) x
      pick c false = tt

      go : (o : Option Candidate) → Picks o (move_of ps t m others ks o)
      go none = tt
      go (some c) = pick c (score_within c.score t)

  move_least : (dem ks : List ℕ) (c : Candidate) (crossed : Bool) → move ps t m others dem ks ≡ remove c crossed → least (score_of ps dem) ks ≡ some c
  move_least dem ks c crossed e = subst (Picks (least (score_of ps dem) ks)) e (move_picks dem ks)

  module _
      (n : ℕ) (dem ks : List ℕ) (c : Candidate) (crossed : Bool)
      (u : Up n ks) (one : OneDemoted dem ks) (e : move ps t m others dem ks ≡ remove c crossed) where
    moved_mid : Mid (score_of ps dem) ks c
    moved_mid = subst (Given (Mid (score_of ps dem) ks)) (move_least dem ks c crossed e) (least_mid (score_of ps dem) ks)

    -- a candidate after it was one before,
    was_inner : (i : ℕ) → Inner (without c.current ks) i → Inner ks i
    was_inner i w = inner_before n ks u moved_mid i w

    -- and not demoted then,
    was_not : (i : ℕ) → Inner (without c.current ks) i → member i dem ≡ false
    was_not i w = go (member i dem) refl
      where
        go : (x : Bool) → member i dem ≡ x → x ≡ false
        go true h =
            let q : c.current ≡ i = least_demoted ps dem ks c one (move_least dem ks c crossed e) i (was_inner i w) h in
            absurd (inner_gone n ks u moved_mid (subst (Inner (without c.current ks)) (sym q) w))
        go false h = refl

    -- so it is demoted now only as the left neighbour,
    left_only : (i : ℕ) → Inner (without c.current ks) i → member i (demoted c crossed dem) ≡ (crossed && eqb i c.left)
    left_only i w = demoted_new c crossed dem i (was_not i w)

    -- and that is one.
    pub still_one : OneDemoted (demoted c crossed dem) (without c.current ks)
    still_one i j v w g h = is_left i v g ∙ sym (is_left j w h)
      where
        second : (x y : Bool) → (x && y) ≡ true → y ≡ true
        second true y q = q
        second false y q = absurd (false≢true q)

        is_left : (k : ℕ) → Inner (without c.current ks) k → member k (demoted c crossed dem) ≡ true → k ≡ c.left
        is_left k x q = eqb-true k c.left (second crossed (eqb k c.left) (sym (left_only k x) ∙ q))

    -- Where demotions never end, the same are demoted still.
    still_agree : (dem' : List ℕ) → Agree dem dem' ks → Agree (demoted c crossed dem) (cond crossed (c.left ∷ dem') dem') (without c.current ks)
    still_agree dem' h i w = left_only i w ∙ sym (member_more i c.left crossed dem' (sym (h i (was_inner i w)) ∙ was_not i w))

  -- ---- all states that are reached

  -- what is demoted and what is kept: at first none and the whole ring, then after each removal
  pub data Reaches (ring : List ℕ) : List ℕ → List ℕ → Type 0 where
    start : Reaches ring [] ring
    onward : {dem ks : List ℕ} {c : Candidate} {crossed : Bool}
        → Reaches ring dem ks → move ps t m others dem ks ≡ remove c crossed → Reaches ring (demoted c crossed dem) (without c.current ks)

  -- what the first n removals leave is reached, with what is demoted then, and the removals go on from it
  pub record Passes (ring dem ks : List ℕ) (n : ℕ) : Type 0 where
    pub dem' : List ℕ
    pub reached : Reaches ring dem' (leave (ring_removals n ps t m others dem ks) ks)
    pub rest : (j : ℕ)
        → ring_removals (n + j) ps t m others dem ks
        ≡ ring_removals n ps t m others dem ks ++ ring_removals j ps t m others dem' (leave (ring_removals n ps t m others dem ks) ks)

  -- the removals, where the next move is known
  stopped : (n : ℕ) (dem ks : List ℕ) → move ps t m others dem ks ≡ stop → ring_removals n ps t m others dem ks ≡ []
  stopped zero dem ks e = unfold ring_removals in refl
  stopped (suc n) dem ks e = ring_suc ps t m others n dem ks ∙ ap (followed ps t m others n dem ks) e

  moved : (n : ℕ) (dem ks : List ℕ) (c : Candidate) (crossed : Bool) → move ps t m others dem ks ≡ remove c crossed
      → ring_removals (suc n) ps t m others dem ks ≡ c ∷ ring_removals n ps t m others (demoted c crossed dem) (without c.current ks)
  moved n dem ks c crossed e = ring_suc ps t m others n dem ks ∙ ap (followed ps t m others n dem ks) e

  passes : (n : ℕ) (ring dem ks : List ℕ) → Reaches ring dem ks → Passes ring dem ks n
  passes zero ring dem ks r = unfold ring_removals leave in record { dem' = dem; reached = r; rest = λ j. let h : 0 + j ≡ j = omega arith in rw h }
  passes (suc n) ring dem ks r = go (move ps t m others dem ks) refl (passes n ring)
    where
      go : (o : Move) → move ps t m others dem ks ≡ o → ((d l : List ℕ) → Reaches ring d l → Passes ring d l n) → Passes ring dem ks (suc n)
      go stop e p =
          let q = stopped (suc n) dem ks e in
          record {
            dem' = dem;
            reached = rw q (unfold leave in r);
            rest = λ j. rw q (unfold leave in stopped (suc n + j) dem ks e ∙ sym (stopped j dem ks e));
          }
      go (remove c crossed) e p =
          let z = p (demoted c crossed dem) (without c.current ks) (onward r e) in
          let q = moved n dem ks c crossed e in
          record {
            dem' = z.dem';
            reached = rw q (unfold leave in z.reached);
            rest = λ j.
                let h : suc n + j ≡ suc (n + j) = omega arith in
                rw (h, q) (moved (n + j) dem ks c crossed e ∙ (unfold leave in ap (λ (l : List Candidate). c ∷ l) (z.rest j)));
          }

  -- The states that the removals of a ring go through are reached.
  pub ring_reaches : (n : ℕ) (ring : List ℕ) → Passes ring [] ring n
  ring_reaches n ring = passes n ring [] ring start

  -- What is kept is increasing,
  pub reached_rises : {ring dem ks : List ℕ} (n : ℕ) → Up n ring → Reaches ring dem ks → Up n ks
  reached_rises n u start = u
  reached_rises n u (onward {dem} {ks} {c} {crossed} r e) = up_without c.current n ks (reached_rises n u r)

  -- and at most one candidate is demoted.
  pub one_demoted : {ring dem ks : List ℕ} (n : ℕ) → Up n ring → Reaches ring dem ks → OneDemoted dem ks
  one_demoted {ring} n u start = none_demoted ring
  one_demoted n u (onward {dem} {ks} {c} {crossed} r e) = still_one n dem ks c crossed (reached_rises n u r) (one_demoted n u r) e

  module _
      {ring dem ks : List ℕ} {c : Candidate} {crossed : Bool} (n : ℕ)
      (u : Up n ring) (r : Reaches ring dem ks) (e : move ps t m others dem ks ≡ remove c crossed) where
    -- The next removal, if there is one, is of the demoted candidate, if there is one.
    pub demoted_next : (i : ℕ) → Inner ks i → member i dem ≡ true → c.current ≡ i
    demoted_next = least_demoted ps dem ks c (one_demoted n u r) (move_least dem ks c crossed e)

    -- After it the left neighbour is demoted, if the new segment crossed, and no other candidate.
    pub left_demoted : (i : ℕ) → Inner (without c.current ks) i → member i (demoted c crossed dem) ≡ (crossed && eqb i c.left)
    left_demoted = left_only n dem ks c crossed (reached_rises n u r) (one_demoted n u r) e

-- ---- demotions that never end

-- `ring_removals` where what was demoted stays so
unfoldable pub lasting : ℕ → List Point → Float → Minima → List (List ℕ) → List ℕ → List ℕ → List Candidate
unfolding move without
lasting zero ps t m others dem ks = []
lasting (suc n) ps t m others dem ks =
    elim (move ps t m others dem ks) [
      | stop ↦ []
      | remove c crossed ↦ c ∷ lasting n ps t m others (cond crossed (c.left ∷ dem) dem) (without c.current ks)
    ]

-- `least` looks at no other scores than those of candidates
least_same : (f g : ℕ → ℕ → ℕ → ℕ) (ks : List ℕ) → ((i : ℕ) (w : Inner ks i) → f w.left i w.right ≡ g w.left i w.right) → least f ks ≡ least g ks
unfolding least inner_cons
least_same f g [] h = refl
least_same f g (a ∷ []) h = refl
least_same f g (a ∷ b ∷ []) h = refl
least_same f g (a ∷ b ∷ c ∷ ks) h =
    let p : f a b c ≡ g a b c = h b (record { pre = []; left = a; right = c; post = ks; split = refl }) in
    let q = least_same f g (b ∷ c ∷ ks) (λ i w. h i (inner_cons a w)) in
    λ i. some (better (record { left = a; current = b; right = c; score = p i }) (q i))

module _ (ps : List Point) (t : Float) (m : Minima) (others : List (List ℕ)) where
  move_same : (dem dem' ks : List ℕ) → Agree dem dem' ks → move ps t m others dem ks ≡ move ps t m others dem' ks
  unfolding move score_of
  move_same dem dem' ks h =
      ap (move_of ps t m others ks)
      (least_same (score_of ps dem) (score_of ps dem') ks (λ i w. ap (λ (b : Bool). cond b 0 (suc (area_at ps w.left i w.right))) (h i w)))

  -- what `lasting (suc n)` does with a move
  abbrev lasted : ℕ → List ℕ → List ℕ → Move → List Candidate
  lasted n dem ks stop = []
  lasted n dem ks (remove c crossed) = c ∷ lasting n ps t m others (cond crossed (c.left ∷ dem) dem) (without c.current ks)

  lasting_suc : (n : ℕ) (dem ks : List ℕ) → lasting (suc n) ps t m others dem ks ≡ lasted n dem ks (move ps t m others dem ks)
  unfolding lasting
  lasting_suc n dem ks = go (move ps t m others dem ks)
    where
      go : (o : Move)
          → elim o as (λ _. List Candidate) [ stop ↦ [] | remove c crossed ↦ c ∷ lasting n ps t m others (cond crossed (c.left ∷ dem) dem) (without c.current ks) ]
          ≡ lasted n dem ks o
      go stop = refl
      go (remove c crossed) = refl

  -- from states with the same candidates demoted
  same_removals : (n k : ℕ) (dem dem' ks : List ℕ) → Up k ks → OneDemoted dem ks → Agree dem dem' ks
      → ring_removals n ps t m others dem ks ≡ lasting n ps t m others dem' ks
  same_removals zero k dem dem' ks u one h = unfold ring_removals lasting in refl
  same_removals (suc n) k dem dem' ks u one h =
      ring_suc ps t m others n dem ks
      ∙ (go (move ps t m others dem ks) refl (λ (d d' l : List ℕ). same_removals n k d d' l)
      ∙ (ap (lasted n dem' ks) (move_same dem dem' ks h) ∙ sym (lasting_suc n dem' ks)))
    where
      go : (o : Move) → move ps t m others dem ks ≡ o
          → ((d d' l : List ℕ) → Up k l → OneDemoted d l → Agree d d' l → ring_removals n ps t m others d l ≡ lasting n ps t m others d' l)
          → followed ps t m others n dem ks o ≡ lasted n dem' ks o
      go stop e r = refl
      go (remove c crossed) e r =
          ap (λ (l : List Candidate). c ∷ l)
          (r (demoted c crossed dem) (cond crossed (c.left ∷ dem') dem') (without c.current ks)
          (up_without c.current k ks u) (still_one ps t m others k dem ks c crossed u one e)
          (still_agree ps t m others k dem ks c crossed u one e dem' h))

  -- The removals are the same if demotions never end.
  pub demotion_unseen : (n k : ℕ) (ring : List ℕ) → Up k ring → ring_removals n ps t m others [] ring ≡ lasting n ps t m others [] ring
  demotion_unseen n k ring u = same_removals n k [] [] ring u (none_demoted ring) (λ i w. refl)
