-- Laws of the plain rule: how many removals there are, what they leave, and the n-th step. Assumes nothing.
--     removed_few       a line of n points has at most n - 2 removals
--     finished_by       finished by step n - 1, or by step 1 if n is below 2
--     finished_again    and again at each later step
--     made_of, once, no_other   at every moment the removals made and the points left are the points opened, each once
--     next_nth, left_suc        the step after n steps, and what it leaves
--     removals_more     more steps than `removed` counts change nothing
use mathlib.Core.Path.{◌≡◌, refl, sym, ap, ◌∙◌, subst}
use mathlib.Core.Bool.{Bool, true, false, cond}
use mathlib.Core.List.{List, [], ◌∷◌, ◌++◌}
use mathlib.Core.Logic.{◌⊎◌, inl, inr}
use mathlib.Core.Option.{Option, none, some}
use Prim.Native.Nat.{ℕ, zero, suc, ◌+◌, ◌-◌, ◌≤◌, ◌<◌, max}
use native.Mathlib.Omega.{arith}
use lib.Dec.{eqb}
use lib.ListN.{length, take, get_elem?, length-append}
use lib.Seq.{take_all}
use lib.Ieee.{Float}
use borrow.Author.Tests.{eqb-true, eqb-false, eq-eqb, ne_eqb}
use Rattle.rule.specs.Grid.{Point, within}
use Rattle.rule.specs.Plain.{Candidate, before, better, least, indices, all, without, leave, area_at, at_most, next, removals, removed, index_rule}
use Rattle.rule.specs.Slots.{nth, left_after}
use Rattle.rule.specs.SlotCalls.{less_by}
use Rattle.laws.specs.Times.{tick, times}

-- ---- candidates of a list

-- a fact about what an option holds
abbrev pub Given : (Candidate → Type 0) → Option Candidate → Type 0
Given P none = Unit {0}
Given P (some c) = P c

-- the candidate stands in the list between its neighbours, with its score
pub record Mid (f : ℕ → ℕ → ℕ → ℕ) (ks : List ℕ) (c : Candidate) : Type 0 where
  pub pre : List ℕ
  pub post : List ℕ
  pub split : ks ≡ pre ++ (c.left ∷ c.current ∷ c.right ∷ post)
  pub scored : c.score ≡ f c.left c.current c.right

further : {f : ℕ → ℕ → ℕ → ℕ} {ks : List ℕ} {c : Candidate} (a : ℕ) → Mid f ks c → Mid f (a ∷ ks) c
further a m = record { pre = a ∷ m.pre; post = m.post; split = ap (λ (l : List ℕ). a ∷ l) m.split; scored = m.scored }

better_given : (P : Candidate → Type 0) (x : Candidate) (o : Option Candidate) → P x → Given P o → P (better x o)
unfolding better
better_given P x none p q = p
better_given P x (some y) p q = go (before y x)
  where
    go : (b : Bool) → P (cond b y x)
    go true = q
    go false = p

pub given_map : (P Q : Candidate → Type 0) (o : Option Candidate) → ((c : Candidate) → P c → Q c) → Given P o → Given Q o
given_map P Q none h p = tt
given_map P Q (some c) h p = h c p

-- what `least` finds is a candidate
pub least_mid : (f : ℕ → ℕ → ℕ → ℕ) (ks : List ℕ) → Given (Mid f ks) (least f ks)
unfolding least
least_mid f [] = tt
least_mid f (a ∷ []) = tt
least_mid f (a ∷ b ∷ []) = tt
least_mid f (a ∷ b ∷ c ∷ ks) =
    better_given (Mid f (a ∷ b ∷ c ∷ ks)) (record { left = a; current = b; right = c; score = f a b c }) (least f (b ∷ c ∷ ks))
    (record { pre = []; post = ks; split = refl; scored = refl })
    (given_map (Mid f (b ∷ c ∷ ks)) (Mid f (a ∷ b ∷ c ∷ ks)) (least f (b ∷ c ∷ ks)) (λ d m. further a m) (least_mid f (b ∷ c ∷ ks)))

pub next_mid : (ps : List Point) (t : Float) (ks : List ℕ) → Given (Mid (area_at ps) ks) (next ps t ks)
unfolding next at_most
next_mid ps t ks = go (least (area_at ps) ks) (least_mid (area_at ps) ks)
  where
    pick : (c : Candidate) → Mid (area_at ps) ks c → (b : Bool) → Given (Mid (area_at ps) ks) (cond b (some c) none)
    pick c m true = m
    pick c m false = tt

    go : (o : Option Candidate) → Given (Mid (area_at ps) ks) o → Given (Mid (area_at ps) ks) (at_most t o)
    go none m = tt
    go (some c) m = pick c m (within c.score t)

-- ---- how often a number stands in a list

pub times_append : (x : ℕ) (xs ys : List ℕ) → times x (xs ++ ys) ≡ times x xs + times x ys
times_append x [] ys = omega arith
times_append x (a ∷ xs) ys = omega (arith, times_append x xs ys)

pub eqb_self : (n : ℕ) → eqb n n ≡ true
eqb_self n = eq-eqb n n refl

-- a candidate stands in the list, which has two more besides
pub mid_times : {f : ℕ → ℕ → ℕ → ℕ} {ks : List ℕ} {c : Candidate} → Mid f ks c → 0 < times c.current ks
mid_times {f} {ks} {c} m = subst (λ (l : List ℕ). 0 < times c.current l) (sym m.split) (rw (times_append, eqb_self) (omega arith))

pub mid_length : {f : ℕ → ℕ → ℕ → ℕ} {ks : List ℕ} {c : Candidate} → Mid f ks c → 3 ≤ length ks
mid_length {f} {ks} {c} m = subst (λ (l : List ℕ). 3 ≤ length l) (sym m.split) (rw length-append (omega arith))

-- ---- to take one away

-- not at the head, so further on
pub times_tail : (i k : ℕ) (ks : List ℕ) → eqb i k ≡ false → 0 < times i (k ∷ ks) → 0 < times i ks
times_tail i k ks e h = let g : 0 < tick false + times i ks = rw e at h in omega arith

pub without_length : (i : ℕ) (ks : List ℕ) → 0 < times i ks → suc (length (without i ks)) ≡ length ks
unfolding without
without_length i [] h = omega arith
without_length i (k ∷ ks) h = go (eqb i k) refl (λ g. without_length i ks g)
  where
    go : (b : Bool) → eqb i k ≡ b → (0 < times i ks → suc (length (without i ks)) ≡ length ks) → suc (length (cond b ks (k ∷ without i ks))) ≡ suc (length ks)
    go true e r = refl
    go false e r = ap suc (r (times_tail i k ks e h))

pub without_times : (i x : ℕ) (ks : List ℕ) → 0 < times i ks → times x ks ≡ tick (eqb x i) + times x (without i ks)
unfolding without
without_times i x [] h = omega arith
without_times i x (k ∷ ks) h = go (eqb i k) refl (λ g. without_times i x ks g)
  where
    go : (b : Bool) → eqb i k ≡ b → (0 < times i ks → times x ks ≡ tick (eqb x i) + times x (without i ks))
        → tick (eqb x k) + times x ks ≡ tick (eqb x i) + times x (cond b ks (k ∷ without i ks))
    go true e r = rw (eqb-true i k e)
    go false e r = omega (arith, r (times_tail i k ks e h))

-- ---- removals, by any rule

-- the indices removed
abbrev pub curs : List Candidate → List ℕ
curs [] = []
curs (c ∷ cs) = c.current ∷ curs cs

-- They go one by one, each a candidate of what is left then.
pub data OneByOne : List ℕ → List Candidate → Type 0 where
  stops : {ks : List ℕ} → OneByOne ks []
  goes : {f : ℕ → ℕ → ℕ → ℕ} {ks : List ℕ} {c : Candidate} {cs : List Candidate} → Mid f ks c → OneByOne (without c.current ks) cs → OneByOne ks (c ∷ cs)

pub one_take : {ks : List ℕ} {cs : List Candidate} (n : ℕ) → OneByOne ks cs → OneByOne ks (take n cs)
one_take zero r = stops
one_take (suc n) stops = stops
one_take {ks} (suc n) (goes {f} {c} {cs} m r) = goes m (one_take {ks = without c.current ks} n r)

-- at most two fewer than there were points
pub one_few : {ks : List ℕ} {cs : List Candidate} → OneByOne ks cs → length cs ≤ length ks - 2
one_few stops = omega arith
one_few (goes {f} {ks} {c} {cs} m r) = omega (arith, one_few r, without_length c.current ks (mid_times m), mid_length m)

-- the removed and the left make up what there was
pub one_makes : {ks : List ℕ} {cs : List Candidate} (x : ℕ) → OneByOne ks cs → times x (curs cs) + times x (leave cs ks) ≡ times x ks
unfolding leave
one_makes x stops = omega arith
one_makes x (goes {f} {ks} {c} {cs} m r) = omega (arith, one_makes x r, without_times c.current x ks (mid_times m))

-- ---- the removals of the plain rule

-- what `removals (suc n)` does with the next candidate
abbrev pub follow : ℕ → List Point → Float → List ℕ → Option Candidate → List Candidate
follow n ps t ks none = []
follow n ps t ks (some c) = c ∷ removals n ps t (without c.current ks)

pub removals_suc : (n : ℕ) (ps : List Point) (t : Float) (ks : List ℕ) → removals (suc n) ps t ks ≡ follow n ps t ks (next ps t ks)
unfolding removals
removals_suc n ps t ks = go (next ps t ks)
  where
    go : (o : Option Candidate) → elim o as (λ _. List Candidate) [ none ↦ [] | some c ↦ c ∷ removals n ps t (without c.current ks) ] ≡ follow n ps t ks o
    go none = refl
    go (some c) = refl

pub removals_one : (n : ℕ) (ps : List Point) (t : Float) (ks : List ℕ) → OneByOne ks (removals n ps t ks)
removals_one zero ps t ks = unfold removals in stops
removals_one (suc n) ps t ks = rw removals_suc (go (next ps t ks) (next_mid ps t ks) (λ (l : List ℕ). removals_one n ps t l))
  where
    go : (o : Option Candidate) → Given (Mid (area_at ps) ks) o → ((l : List ℕ) → OneByOne l (removals n ps t l)) → OneByOne ks (follow n ps t ks o)
    go none m r = stops
    go (some c) m r = goes m (r (without c.current ks))

-- fewer than three points have no candidate
pub next_short : (ps : List Point) (t : Float) (ks : List ℕ) → length ks ≤ 2 → next ps t ks ≡ none
next_short ps t ks h = go (next ps t ks) (next_mid ps t ks)
  where
    go : (o : Option Candidate) → Given (Mid (area_at ps) ks) o → o ≡ none
    go none m = refl
    go (some c) m = absurd (omega (arith, mid_length m))

-- where n removals are all that can be, more steps change nothing
pub removals_more : (m n : ℕ) (ps : List Point) (t : Float) (ks : List ℕ) → length ks ≤ n + 2 → n ≤ m → removals m ps t ks ≡ removals n ps t ks
removals_more zero zero ps t ks h g = refl
removals_more zero (suc n) ps t ks h g = absurd (omega arith)
removals_more (suc m) zero ps t ks h g = rw (removals_suc, next_short ps t ks h) (unfold removals in refl)
removals_more (suc m) (suc n) ps t ks h g =
    removals_suc m ps t ks
    ∙ (go (next ps t ks) (next_mid ps t ks) (λ (l : List ℕ) (k : length l ≤ n + 2). removals_more m n ps t l k (omega arith)) ∙ sym (removals_suc n ps t ks))
  where
    go : (o : Option Candidate) → Given (Mid (area_at ps) ks) o → ((l : List ℕ) → length l ≤ n + 2 → removals m ps t l ≡ removals n ps t l)
        → follow m ps t ks o ≡ follow n ps t ks o
    go none d r = refl
    go (some c) d r = ap (λ (l : List Candidate). c ∷ l) (r (without c.current ks) (omega (arith, without_length c.current ks (mid_times d), mid_length d)))

-- ---- all the points

pub length_indices : (i n : ℕ) → length (indices i n) ≡ n
unfolding indices
length_indices i zero = refl
length_indices i (suc n) = ap suc (length_indices (suc i) n)

pub indices_out : (i n x : ℕ) → ((x < i) ⊎ (i + n ≤ x)) → times x (indices i n) ≡ 0
unfolding indices
indices_out i zero x h = refl
indices_out i (suc n) x (inl h) = rw (ne_eqb x i (λ e. omega arith)) (omega (arith, indices_out (suc i) n x (inl (omega arith))))
indices_out i (suc n) x (inr h) = rw (ne_eqb x i (λ e. omega arith)) (omega (arith, indices_out (suc i) n x (inr (omega arith))))

pub indices_in : (i n x : ℕ) → i ≤ x → x < i + n → times x (indices i n) ≡ 1
unfolding indices
indices_in i zero x h g = omega arith
indices_in i (suc n) x h g = go (eqb x i) refl (λ (l : suc i ≤ x). indices_in (suc i) n x l (omega arith))
  where
    go : (b : Bool) → eqb x i ≡ b → (suc i ≤ x → times x (indices (suc i) n) ≡ 1) → tick b + times x (indices (suc i) n) ≡ 1
    go true e r = omega (arith, indices_out (suc i) n x (inl (omega (arith, eqb-true x i e))))
    go false e r = omega (arith, r (omega (arith, eqb-false x i e)))

pub length_all : (ps : List Point) → length (all ps) ≡ length ps
unfolding all
length_all ps = length_indices 0 (length ps)

-- ---- the whole rule

pub removed_one : (ps : List Point) (t : Float) → OneByOne (all ps) (removed ps t)
unfolding removed
removed_one ps t = removals_one (length ps) ps t (all ps)

-- A line of n points has at most n - 2 removals.
pub removed_few : (ps : List Point) (t : Float) → length (removed ps t) ≤ length ps - 2
removed_few ps t = omega (arith, one_few (removed_one ps t), length_all ps)

-- `removed` counts enough steps: more change nothing.
pub removed_more : (n : ℕ) (ps : List Point) (t : Float) → length ps ≤ n → removals n ps t (all ps) ≡ removed ps t
unfolding removed
removed_more n ps t h = removals_more n (length ps) ps t (all ps) (omega (arith, length_all ps)) h

-- At every moment the removals made since opening and the points left make up the points opened;
pub made_of : (n : ℕ) (ps : List Point) (t : Float) (i : ℕ) → times i (curs (take n (removed ps t))) + times i (left_after ps t n) ≡ times i (all ps)
unfolding left_after
made_of n ps t i = one_makes i (one_take n (removed_one ps t))

-- these are the indices below the number of points, each once,
pub once : (ps : List Point) (i : ℕ) → i < length ps → times i (all ps) ≡ 1
unfolding all
once ps i h = indices_in 0 (length ps) i (omega arith) (omega arith)

-- and no other.
pub no_other : (ps : List Point) (i : ℕ) → length ps ≤ i → times i (all ps) ≡ 0
unfolding all
no_other ps i h = indices_out 0 (length ps) i (inr (omega arith))

-- ---- step by step; the step with the number k, counted from 1, is `nth ps t (k - 1)`

none_later : (cs : List Candidate) (k m : ℕ) → k ≤ m → get_elem? cs k ≡ none → get_elem? cs m ≡ none
none_later [] k m h e = refl
none_later (c ∷ cs) zero m h e = absurd (let z : ◌≡◌ {A = ℕ} 0 1 = cc in omega arith)
none_later (c ∷ cs) (suc k) zero h e = absurd (omega arith)
none_later (c ∷ cs) (suc k) (suc m) h e = none_later cs k m (omega arith) e

none_past : (cs : List Candidate) (k : ℕ) → length cs ≤ k → get_elem? cs k ≡ none
none_past [] k h = refl
none_past (c ∷ cs) zero h = absurd (omega arith)
none_past (c ∷ cs) (suc k) h = none_past cs k (omega arith)

-- On n points, finished by step n - 1, or by step 1 if n is below 2;
pub finished_by : (ps : List Point) (t : Float) (k : ℕ) → max 1 (length ps - 1) ≤ suc k → nth ps t k ≡ none
unfolding nth
finished_by ps t k h = none_past (removed ps t) k (omega (arith, removed_few ps t))

-- and again at each later step, whenever it came.
pub finished_again : (ps : List Point) (t : Float) (k m : ℕ) → k ≤ m → nth ps t k ≡ none → nth ps t m ≡ none
unfolding nth
finished_again ps t k m h e = none_later (removed ps t) k m h e

-- what the next step finds after the first n removals is the n-th of them, from 0
next_is : (m n : ℕ) (ps : List Point) (t : Float) (ks : List ℕ) → length ks ≤ m + 2
    → next ps t (leave (take n (removals m ps t ks)) ks) ≡ get_elem? (removals m ps t ks) n
unfolding leave
next_is zero n ps t ks h = unfold removals in go n (next_short ps t ks h)
  where
    go : (n : ℕ) → next ps t ks ≡ none → next ps t (leave (take n []) ks) ≡ none
    go zero e = e
    go (suc n) e = e
next_is (suc m) n ps t ks h = rw removals_suc (go (next ps t ks) refl (next_mid ps t ks) n (λ (n : ℕ) (l : List ℕ). next_is m n ps t l))
  where
    go : (o : Option Candidate) → next ps t ks ≡ o → Given (Mid (area_at ps) ks) o → (n : ℕ)
        → ((n : ℕ) (l : List ℕ) → length l ≤ m + 2 → next ps t (leave (take n (removals m ps t l)) l) ≡ get_elem? (removals m ps t l) n)
        → next ps t (leave (take n (follow m ps t ks o)) ks) ≡ get_elem? (follow m ps t ks o) n
    go none e d zero r = e
    go none e d (suc n) r = e
    go (some c) e d zero r = e
    go (some c) e d (suc n) r = r n (without c.current ks) (omega (arith, without_length c.current ks (mid_times d), mid_length d))

-- The n-th of the rule's removals is the next removal from what is left after n steps,
pub next_nth : (ps : List Point) (t : Float) (n : ℕ) → next ps t (left_after ps t n) ≡ nth ps t n
unfolding left_after nth removed
next_nth ps t n = next_is (length ps) n ps t (all ps) (omega (arith, length_all ps))

leave_take : (n : ℕ) (cs : List Candidate) (ks : List ℕ) → leave (take (suc n) cs) ks ≡ less_by (get_elem? cs n) (leave (take n cs) ks)
unfolding leave
leave_take zero [] ks = refl
leave_take (suc n) [] ks = refl
leave_take zero (c ∷ cs) ks = refl
leave_take (suc n) (c ∷ cs) ks = leave_take n cs (without c.current ks)

-- which takes it away from that;
pub left_suc : (ps : List Point) (t : Float) (n : ℕ) → left_after ps t (suc n) ≡ less_by (next ps t (left_after ps t n)) (left_after ps t n)
left_suc ps t n = rw next_nth (unfold left_after nth in leave_take n (removed ps t) (all ps))

-- all the points are left at first.
pub left_zero : (ps : List Point) (t : Float) → left_after ps t 0 ≡ all ps
unfolding left_after leave
left_zero ps t = refl

-- What is left once it is finished is what the index rule keeps.
pub left_last : (ps : List Point) (t : Float) (n : ℕ) → length ps ≤ n + 2 → left_after ps t n ≡ index_rule ps t
unfolding left_after index_rule
left_last ps t n h = rw (take_all n (removed ps t) (omega (arith, removed_few ps t)))
