-- The history theorem: from a clear on, whatever the calls, all answers and outputs are those of the slots as a reader thinks of them. Assumes nothing.
--     history_begins     there is a history of every area
--     history            all answers and outputs are as expected
--     cut_short          a call that is lent the area cut short is refused with 8, and its output is as it was
--     not_cut            no other call is
use mathlib.Core.Path.{◌≡◌, refl, sym, ap, ◌∙◌, subst}
use mathlib.Core.Logic.{◌≢◌}
use mathlib.Core.Bool.{Bool, true, false, not, ◌||◌, cond, true≢false}
use mathlib.Core.List.{List, [], ◌∷◌, ◌++◌}
use mathlib.Core.Option.{Option, none, some}
use Prim.Native.Nat.{ℕ, zero, suc, ◌+◌, ◌*◌, ◌≤◌, ◌<◌}
use native.Mathlib.Omega.{arith}
use native.Mathlib.Nat.{suc-mul}
use lib.Dec.{ltb, eqb}
use lib.ListN.{length, take, drop, length-take, length-append}
use lib.Seq.{take_all, take-take, take_at, take-append-le, get_or-take, ext_get_or, length-take-le}
use lib.Ieee.{Float, nan}
use borrow.Author.Tests.{ltb-true, ltb-false, lt-ltb, le-ltb}
use Rattle.rule.specs.Sizes.{most_points, slots, slot_floats, slot_words, area_floats, area_words}
use Rattle.rule.specs.Grid.{Point, points, is_finite}
use Rattle.rule.specs.Plain.{Candidate}
use Rattle.rule.specs.Answers.{Answer, done, kept, removal, finished, refused}
use Rattle.rule.specs.Area.{Area, piece, part, is_open, area, zeroed}
use Rattle.rule.specs.Reasons.{first_off_grid, is_some, first_of, line_rows, refusal, area_short, clear_reason, open_reason, slot_reason}
use Rattle.rule.specs.Slots.{Slot, closed, opened, Slots, put, nth, left_after, step_answer, SlotCall, clear, open', step, read, close, Effect, says}
use Rattle.rule.specs.Slots.{open_slot, step_slot, read_slot, close_slot, numbered, act}
use Rattle.rule.specs.Whole.{over}
use Rattle.rule.specs.SlotCalls.{Clears}
use Rattle.rule.proofs.Parts.{Long, long, piece_length, piece_at}
use Rattle.rule.proofs.Settled.{call_done}
use Rattle.laws.proofs.History.{Holds, Sim, Agrees, clear_agrees, open_agrees, step_agrees, read_agrees, close_agrees}
use Rattle.part.specs.Rep.{Rep}
use Rattle.history.specs.History.{Sized, Lending, is_cut, front, renewed, lent_area, left_area, Made, made, States, Run, ends, calls, History}
use Rattle.history.specs.History.{none_open, output_of, effect, expected}

pub rep_open : (p : Area) (ps : List Point) (t : Float) (ks : List ℕ) → Rep p ps t ks → is_open p ≡ true
rep_open p ps t ks h = h.opened

abbrev Agree : Slots → Area → Type 0
Agree = Sim Rep

-- ---- one slice lent and given back

module _ {A : Type 0} (n : ℕ) (l more : List A) where
  -- what is lent is as it was, and so is the area
  same_again : renewed n l (front n l more) ≡ l
  same_again = go n l
    where
      go : (n : ℕ) (l : List A) → take (length l) (take n (l ++ more) ++ drop n l) ≡ l
      go n [] = refl
      go zero (x ∷ l) = ap (λ (r : List A). x ∷ r) (take_all (length l) l (omega arith))
      go (suc n) (x ∷ l) = ap (λ (r : List A). x ∷ r) (go n l)

  -- the lent places begin with the area, where they are enough
  begins : length l ≤ length (front n l more) → take (length l) (front n l more) ≡ l
  begins h = take-take (length l) n (l ++ more) (omega (arith, length-take n (l ++ more))) ∙ take_at l more (length l) refl

module _ {A : Type 0} (z : A) (n j : ℕ) where
  -- a part is seen in what the slice begins with
  front_piece : (k : ℕ) (l : List A) → suc j * n ≤ k → k ≤ length l → piece n j (take k l) ≡ piece n j l
  front_piece k l h g =
      ext_get_or z (piece n j (take k l)) (piece n j l) (size ∙ sym (piece_length n j l (omega arith)))
      (λ i w. piece_at n j (take k l) i z (omega (arith, size)) ∙ get_or-take k l (j * n + i) z (omega (arith, size, suc-mul j n))
      ∙ sym (piece_at n j l i z (omega (arith, size))))
    where
      size : length (piece n j (take k l)) ≡ n
      size = piece_length n j (take k l) (omega (arith, length-take-le k l g))

  module _ (m : ℕ) (l : List A) (fits : suc j * n ≤ length l) where
    lent_piece : (more : List A) → length l ≤ length (front m l more) → piece n j (front m l more) ≡ piece n j l
    lent_piece more h = sym (front_piece (length l) (front m l more) fits h) ∙ ap (piece n j) (begins m l more h)

    left_piece : (l' : List A) → length l ≤ length l' → piece n j (renewed m l l') ≡ piece n j l'
    left_piece l' h = ap (piece n j) (take-append-le (length l) l' (drop m l) h) ∙ front_piece (length l) l' fits h

left_length : {A : Type 0} (m : ℕ) (l l' : List A) → length l ≤ length l' → length (renewed m l l') ≡ length l
left_length m l l' h = length-take-le (length l) (l' ++ drop m l) (rw length-append (omega arith))

-- ---- the area lent and given back

module _ (d : Lending) (a : Area) (z : Sized a) where
  same_area : left_area d a (lent_area d a) ≡ a
  same_area = λ i. record {
    floats = same_again d.floats a.floats d.behind.floats i;
    words = same_again d.words a.words d.behind.words i;
  }

  lent_part : Long (lent_area d a) → (j : ℕ) → j < slots → part j (lent_area d a) ≡ part j a
  lent_part h j g = λ i. record {
    floats = lent_piece nan slot_floats j d.floats a.floats (omega (arith, z.floats)) d.behind.floats (omega (arith, z.floats, h.floats)) i;
    words = lent_piece 0 slot_words j d.words a.words (omega (arith, z.words)) d.behind.words (omega (arith, z.words, h.words)) i;
  }

  module _ (b : Area) (h : Long b) where
    left_part : (j : ℕ) → j < slots → part j (left_area d a b) ≡ part j b
    left_part j g = λ i. record {
      floats = left_piece nan slot_floats j d.floats a.floats (omega (arith, z.floats)) b.floats (omega (arith, z.floats, h.floats)) i;
      words = left_piece 0 slot_words j d.words a.words (omega (arith, z.words)) b.words (omega (arith, z.words, h.words)) i;
    }

    left_sized : Sized (left_area d a b)
    left_sized = record {
      floats = left_length d.floats a.floats b.floats (omega (arith, z.floats, h.floats)) ∙ z.floats;
      words = left_length d.words a.words b.words (omega (arith, z.words, h.words)) ∙ z.words;
    }

sized_long : {a : Area} → Sized a → Long a
sized_long z = record { floats = omega (arith, z.floats); words = omega (arith, z.words) }

-- the same parts stand for the same slots
agree_parts : (s : Slots) (a b : Area) → Long b → ((j : ℕ) → j < slots → part j b ≡ part j a) → Agree s a → Agree s b
agree_parts s a b h e g = record { sized = h; holds = λ j l. subst (Holds Rep (s j)) (sym (e j l)) (g.holds j l) }

-- ---- cut short

-- of n places lent of a slice and what lies behind it
front_short : {A : Type 0} (size n : ℕ) (l more : List A) → length l ≡ size → ltb n size ≡ ltb (length (front n l more)) size
front_short size n l more z = go (ltb n size) refl
  where
    go : (x : Bool) → ltb n size ≡ x → x ≡ ltb (length (front n l more)) size
    go true e = sym (lt-ltb (length (front n l more)) size (omega (arith, ltb-true n size e, length-take n (l ++ more))))
    go false e = sym (le-ltb (length (front n l more)) size (omega (arith, ltb-false n size e, length-take n (l ++ more), length-append l more, z)))

-- exactly then the contracts see an area that is too short
pub cut_is_short : (d : Lending) (a : Area) → Sized a → is_cut d ≡ (area_short (lent_area d a)).applies
cut_is_short d a z = λ i.
    front_short area_floats d.floats a.floats d.behind.floats z.floats i
    || front_short area_words d.words a.words d.behind.words z.words i

module _ (a : Area) (short : (area_short a).applies ≡ true) where
  clear_8 : clear_reason a ≡ 8
  unfolding clear_reason
  clear_8 = rw short

  slot_8 : (k : ℕ) → slot_reason k a ≡ 8
  unfolding slot_reason
  slot_8 k = rw short

  open_8 : (k : ℕ) (us vs : List Float) (t : Float) → open_reason k us vs t a ≡ 8
  unfolding open_reason
  open_8 k us vs t = rw short

  refused_8 : (c : SlotCall) (r : Answer) (out : List ℕ) (b : Area) → States c r out a b → (r ≡ refused 8 0) × (out ≡ output_of c) × (b ≡ a)
  refused_8 clear r out b s = let w = s.0.refuses 7 clear_8 in (w.0, s.1, w.1)
  refused_8 (open' k us vs t) r out b s = let w = s.0.refuses 7 (open_8 k us vs t) in (w.0, s.1, w.1)
  refused_8 (step k) r out b s = let w = s.0.refuses 7 (slot_8 k) in (w.0, s.1, w.1)
  refused_8 (read k old) r out b s = let w = s.0.refuses 7 (slot_8 k) in (w.0, w.1, s.1)
  refused_8 (close k) r out b s = let w = s.0.refuses 7 (slot_8 k) in (w.0, s.1, w.1)

-- ---- no slot that a reader thinks of answers with 8

line_not_8 : (us vs : List Float) (t : Float) → eqb (first_of (line_rows us vs t)) 8 ≡ false
line_not_8 us vs t = go (not (eqb (length us) (length vs))) (ltb most_points (length us)) (not (is_finite t)) (is_some (first_off_grid us vs))
  where
    go : (x y z w : Bool) → eqb (cond x 1 (cond y 2 (cond z 4 (cond w 3 0)))) 8 ≡ false
    go true y z w = refl
    go false true z w = refl
    go false false true w = refl
    go false false false true = refl
    go false false false false = refl

-- an opening of a closed slot, by the number of the line's first reason
abbrev pub opened_by : Slots → ℕ → List Float → List Float → Float → ℕ → Effect
opened_by s k us vs t n =
    elim n as (λ _. Effect) [ zero ↦ says done (put s k (opened (points us vs) t 0)) | suc n ↦ says (refusal (suc n) (first_off_grid us vs)) s ]

-- a read of an open slot with the points ks left, by whether there is no room for them
abbrev pub read_by : Slots → List ℕ → List ℕ → Bool → Effect
read_by s ks out x =
    cond x (record { answer = refused 7 0; out = out; slots = s }) (record { answer = kept (length ks); out = over ks out; slots = s })

-- refused with 8
abbrev is_short : Answer → Bool
is_short done = false
is_short (kept n) = false
is_short (removal i v) = false
is_short finished = false
is_short (refused n i) = eqb n 8

never_8 : (s : Slots) (c : SlotCall) → is_short (act s c).answer ≡ false
unfolding act numbered open_slot step_slot read_slot close_slot step_answer
never_8 s clear = refl
never_8 s (open' k us vs t) = go (ltb k slots) (s k)
  where
    by_line : (n : ℕ) → eqb n 8 ≡ false → is_short (opened_by s k us vs t n).answer ≡ false
    by_line zero e = refl
    by_line (suc n) e = e

    go : (x : Bool) (v : Slot) → is_short (cond x (open_slot s k v us vs t) (says (refused 9 0) s)).answer ≡ false
    go false v = refl
    go true closed = by_line (first_of (line_rows us vs t)) (line_not_8 us vs t)
    go true (opened ps t' n) = refl
never_8 s (step k) = go (ltb k slots) (s k)
  where
    answered : (o : Option Candidate) → is_short (step_answer o) ≡ false
    answered none = refl
    answered (some c) = refl

    go : (x : Bool) (v : Slot) → is_short (cond x (step_slot s k v) (says (refused 9 0) s)).answer ≡ false
    go false v = refl
    go true closed = refl
    go true (opened ps t n) = answered (nth ps t n)
never_8 s (read k out) = go (ltb k slots) (s k)
  where
    by_room : (ks : List ℕ) (x : Bool) → is_short (read_by s ks out x).answer ≡ false
    by_room ks true = refl
    by_room ks false = refl

    go : (x : Bool) (v : Slot) → is_short (cond x (read_slot s v out) (record { answer = refused 9 0; out = out; slots = s })).answer ≡ false
    go false v = refl
    go true closed = refl
    go true (opened ps t n) = by_room (left_after ps t n) (ltb (length out) (length (left_after ps t n)))
never_8 s (close k) = go (ltb k slots) (s k)
  where
    go : (x : Bool) (v : Slot) → is_short (cond x (close_slot s k v) (says (refused 9 0) s)).answer ≡ false
    go false v = refl
    go true closed = refl
    go true (opened ps t n) = refl

-- ---- one call

agrees : (s : Slots) (a b : Area) (c : SlotCall) (r : Answer) (out : List ℕ) → Agree s a → States c r out a b → Agrees Rep (act s c) r out b
agrees s a b clear r out g m = subst (λ (o : List ℕ). Agrees Rep (act s clear) r o b) (sym m.1) (clear_agrees Rep s a b r g.sized m.0)
agrees s a b (open' k us vs t) r out g m =
    subst (λ (o : List ℕ). Agrees Rep (act s (open' k us vs t)) r o b) (sym m.1) (open_agrees Rep rep_open s k us vs t a b r g m.0)
agrees s a b (step k) r out g m = subst (λ (o : List ℕ). Agrees Rep (act s (step k)) r o b) (sym m.1) (step_agrees Rep rep_open s k a b r g m.0)
agrees s a b (read k old) r out g m = subst (Agrees Rep (act s (read k old)) r out) (sym m.1) (read_agrees Rep rep_open s k a old out r g m.0)
agrees s a b (close k) r out g m = subst (λ (o : List ℕ). Agrees Rep (act s (close k)) r o b) (sym m.1) (close_agrees Rep rep_open s k a b r g m.0)

-- it is answered as a reader expects, and the area goes on agreeing
one_call : (s : Slots) (a : Area) (m : Made) (b : Area) → Sized a → Agree s a → States m.call m.answer m.out (lent_area m.lending a) b
    → Sized (left_area m.lending a b) × Agrees Rep (effect s (is_cut m.lending) m.call) m.answer m.out (left_area m.lending a b)
one_call s a m b z g st = go (is_cut m.lending) (sym (cut_is_short m.lending a z))
  where
    lent : Area
    lent = lent_area m.lending a

    left : Area
    left = left_area m.lending a b

    go : (x : Bool) → (area_short lent).applies ≡ x → Sized left × Agrees Rep (effect s x m.call) m.answer m.out left
    go true e =
        let w = refused_8 lent e m.call m.answer m.out b st in
        let same : left ≡ a = ap (left_area m.lending a) w.2 ∙ same_area m.lending a z in
        (subst Sized (sym same) z, record { answers = w.0; lists = w.1; keeps = subst (Agree s) (sym same) g })
    go false e =
        let h = long lent e in
        let w = agrees s lent b m.call m.answer m.out (agree_parts s a lent h (lent_part m.lending a z h) g) st in
        let k = w.keeps in
        let y = left_sized m.lending a z b k.sized in (
          y,
          record {
            answers = w.answers;
            lists = w.lists;
            keeps = agree_parts (act s m.call).slots b left (sized_long y) (left_part m.lending a z b k.sized) k;
          },
        )

-- ---- all of them

run_expected : (s : Slots) (a : Area) (ms : List Made) → Sized a → Agree s a → Run a ms → expected s ms ≡ ms
run_expected s a [] z g ends = refl
run_expected s a (m ∷ ms) z g (calls b st r) =
    let e = effect s (is_cut m.lending) m.call in
    let w = one_call s a m b z g st in
    let later = run_expected e.slots (left_area m.lending a b) ms w.0 w.1.keeps r in
    λ i. made m.call m.lending (sym w.1.answers i) (sym w.1.lists i) ∷ later i

-- after a clear of the area a that was answered as done
from_clear : (d : Lending) (a b : Area) (ms : List Made) → Sized a → Clears (lent_area d a) done b → Run (left_area d a b) ms → expected none_open ms ≡ ms
unfolding act
from_clear d a b ms z c r = go (area_short (lent_area d a)).applies refl
  where
    go : (x : Bool) → (area_short (lent_area d a)).applies ≡ x → expected none_open ms ≡ ms
    go true e =
        let w : done ≡ refused 8 0 = (c.refuses 7 (clear_8 (lent_area d a) e)).0 in
        absurd (let z : ◌≡◌ {A = ℕ} 0 1 = cc in omega arith)
    go false e =
        let k = (clear_agrees Rep none_open (lent_area d a) b done (long (lent_area d a) e) c).keeps in
        let y = left_sized d a z b k.sized in
        run_expected none_open (left_area d a b) ms y (agree_parts none_open b (left_area d a b) (sized_long y) (left_part d a z b k.sized) k) r

clear_0 : (a : Area) → (area_short a).applies ≡ false → clear_reason a ≡ 0
unfolding clear_reason
clear_0 a e = rw e

-- There is a history of every area: it is lent as it is, and cleared.
pub history_begins : (a : Area) → Sized a → History []
history_begins a z =
    record {
      start = a;
      sized = z;
      lending = whole;
      left = zeroed (lent_area whole a);
      cleared = call_done (clear_0 (lent_area whole a) (sym (cut_is_short whole a z))) refl refl;
      run = ends;
    }
  where
    whole : Lending
    whole = record { floats = area_floats; words = area_words; behind = area [] [] }

-- From a clear on, all calls are answered, and list, as a reader expects.
pub history : {ms : List Made} → History ms → expected none_open ms ≡ ms
history {ms} h = from_clear h.lending h.start h.left ms h.sized h.cleared h.run

-- ---- one of them

-- the first of expected calls, and the others
pub expected_head : (s : Slots) (m : Made) (ms : List Made) → expected s (m ∷ ms) ≡ m ∷ ms → let e = effect s (is_cut m.lending) m.call in
    (m.answer ≡ e.answer) × (m.out ≡ e.out) × (expected e.slots ms ≡ ms)
expected_head s m ms e =
    let x = effect s (is_cut m.lending) m.call in
    let f : made m.call m.lending x.answer x.out ≡ m = cc in
    let g : expected x.slots ms ≡ ms = cc in
    (sym (ap (λ (n : Made). n.answer) f), sym (ap (λ (n : Made). n.out) f), g)

-- it is answered so by some slots
record Said (m : Made) : Type 0 where
  by : Slots
  answers : m.answer ≡ (effect by (is_cut m.lending) m.call).answer
  lists : m.out ≡ (effect by (is_cut m.lending) m.call).out

said : (s : Slots) (xs : List Made) (m : Made) (ys : List Made) → expected s (xs ++ (m ∷ ys)) ≡ xs ++ (m ∷ ys) → Said m
said s [] m ys e = let h = expected_head s m ys e in record { by = s; answers = h.0; lists = h.1 }
said s (x ∷ xs) m ys e = said (effect s (is_cut x.lending) x.call).slots xs m ys (expected_head s x (xs ++ (m ∷ ys)) e).2

module _ {ms : List Made} (h : History ms) (earlier later : List Made) (m : Made) (among : ms ≡ earlier ++ (m ∷ later)) where
  this_said : Said m
  this_said = said none_open earlier m later (sym (ap (expected none_open) among) ∙ history h ∙ among)

  -- A call that is lent the area cut short is refused with 8, and its output is as it was;
  pub cut_short : is_cut m.lending ≡ true → (m.answer ≡ refused 8 0) × (m.out ≡ output_of m.call)
  cut_short e =
      let w = this_said in
      (w.answers ∙ ap (λ (x : Bool). (effect w.by x m.call).answer) e, w.lists ∙ ap (λ (x : Bool). (effect w.by x m.call).out) e)

  -- no other call is.
  pub not_cut : is_cut m.lending ≡ false → (i : ℕ) → m.answer ≢ refused 8 i
  not_cut e i f =
      let w = this_said in
      true≢false (ap is_short (sym f ∙ w.answers ∙ ap (λ (x : Bool). (effect w.by x m.call).answer) e) ∙ never_8 w.by m.call)
