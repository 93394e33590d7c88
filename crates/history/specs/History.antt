-- A history of one work area: calls one after the other from a clear on, each as its contract states it, and what a reader expects of them.
-- Assumes nothing.
use Rattle.std.specs.Prelude.{◌≡◌, Bool, true, false, ◌||◌, cond, List, [], ◌∷◌, ◌++◌, ℕ, ltb, length, take, drop}
use Rattle.rule.specs.Sizes.{area_floats, area_words}
use Rattle.rule.specs.Answers.{Answer, done, refused}
use Rattle.rule.specs.Area.{Area, area}
use Rattle.rule.specs.Slots.{Slots, closed, SlotCall, clear, open', step, read, close, Effect, act}
use Rattle.rule.specs.SlotCalls.{Clears, Opens, Steps, Reads, Closes}
use Rattle.part.specs.Rep.{Rep}

-- ---- how a call is lent the area

pub record Sized (a : Area) : Type 0 where
  pub floats : length a.floats ≡ area_floats
  pub words : length a.words ≡ area_words

-- so many places of each slice, and what lies behind the area
pub record Lending : Type 0 where
  pub floats : ℕ
  pub words : ℕ
  pub behind : Area

-- cut short: fewer places than the area has
abbrev pub is_cut : Lending → Bool
is_cut d = ltb d.floats area_floats || ltb d.words area_words

-- n places of l and of what lies behind it
abbrev pub front : {A : Type 0} → ℕ → List A → List A → List A
front n l more = take n (l ++ more)

-- what is in the place of l, of which n places were lent and hold l' now
abbrev pub renewed : {A : Type 0} → ℕ → List A → List A → List A
renewed n l l' = take (length l) (l' ++ drop n l)

abbrev pub lent_area : Lending → Area → Area
lent_area d a = area (front d.floats a.floats d.behind.floats) (front d.words a.words d.behind.words)

abbrev pub left_area : Lending → Area → Area → Area
left_area d a b = area (renewed d.floats a.floats b.floats) (renewed d.words a.words b.words)

-- ---- calls as they were made

-- how it was lent the area, what it answered, and what its output then held; nothing where none is lent
pub record Made : Type 0 where
  pub call : SlotCall
  pub lending : Lending
  pub answer : Answer
  pub out : List ℕ

abbrev pub made : SlotCall → Lending → Answer → List ℕ → Made
made c d r out = record { call = c; lending = d; answer = r; out = out }

-- the statement of the call's contract, with the lent memory before and after it; a read is lent it to be read
abbrev pub States : SlotCall → Answer → List ℕ → Area → Area → Type 0
States clear r out a b = Clears a r b × (out ≡ [])
States (open' k us vs t) r out a b = Opens Rep k us vs t a r b × (out ≡ [])
States (step k) r out a b = Steps Rep k a r b × (out ≡ [])
States (read k old) r out a b = Reads Rep k a old r out × (b ≡ a)
States (close k) r out a b = Closes k a r b × (out ≡ [])

-- calls on the area a
pub data Run : Area → List Made → Type 0 where
  ends : {a : Area} → Run a []
  calls : {a : Area} {m : Made} {ms : List Made} (b : Area) → States m.call m.answer m.out (lent_area m.lending a) b
      → Run (left_area m.lending a b) ms → Run a (m ∷ ms)

-- after a clear of an area that held anything
pub record History (ms : List Made) : Type 0 where
  pub start : Area
  pub sized : Sized start
  pub lending : Lending
  pub left : Area
  pub cleared : Clears (lent_area lending start) done left
  pub run : Run (left_area lending start left) ms

-- ---- what a reader expects

-- no slot is open
abbrev pub none_open : Slots
none_open j = closed

-- what the call is lent as its output
abbrev pub output_of : SlotCall → List ℕ
output_of clear = []
output_of (open' k us vs t) = []
output_of (step k) = []
output_of (read k old) = old
output_of (close k) = []

-- what a call does with the slots that a reader thinks of; lent the area cut short, it is refused with 8 and changes nothing
abbrev pub effect : Slots → Bool → SlotCall → Effect
effect s true c = record { answer = refused 8 0; out = output_of c; slots = s }
effect s false c = act s c

-- the same calls, as those slots answer them
abbrev pub expected : Slots → List Made → List Made
expected s [] = []
expected s (m ∷ ms) =
    let e = effect s (is_cut m.lending) m.call in
    made m.call m.lending e.answer e.out ∷ expected e.slots ms

-- the calls that count: those not cut short
abbrev pub counted : List Made → List Made
counted [] = []
counted (m ∷ ms) = let r = counted ms in cond (is_cut m.lending) r (m ∷ r)
