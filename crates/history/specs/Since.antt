-- What was called since a slot was opened, among the calls that count. Assumes nothing.
use Rattle.std.specs.Prelude.{◌≡◌, Bool, true, false, not, ◌&&◌, cond, List, [], ◌∷◌, ◌++◌, ℕ, suc, eqb, Float}
use Rattle.rule.specs.Answers.{Answer, done, kept, removal, finished, refused}
use Rattle.rule.specs.Slots.{SlotCall, clear, open', step, read, close}
use Rattle.rule.specs.SlotCalls.{is_refused}
use Rattle.history.specs.History.{Made, counted}

-- the call is a clear, or on slot k
abbrev pub concerns : ℕ → SlotCall → Bool
concerns k clear = true
concerns k (open' j us vs t) = eqb k j
concerns k (step j) = eqb k j
concerns k (read j out) = eqb k j
concerns k (close j) = eqb k j

-- the call would close slot k
abbrev pub closes : ℕ → SlotCall → Bool
closes k clear = true
closes k (open' j us vs t) = false
closes k (step j) = false
closes k (read j out) = false
closes k (close j) = eqb k j

-- the call, so answered, opened slot k
abbrev pub has_opened : ℕ → SlotCall → Answer → Bool
has_opened k clear r = false
has_opened k (open' j us vs t) r = eqb k j && not (is_refused r)
has_opened k (step j) r = false
has_opened k (read j out) r = false
has_opened k (close j) r = false

abbrev pub is_step : ℕ → SlotCall → Bool
is_step k clear = false
is_step k (open' j us vs t) = false
is_step k (step j) = eqb k j
is_step k (read j out) = false
is_step k (close j) = false

-- no call passes the test
abbrev pub NoneOf : (Made → Bool) → List Made → Type 0
NoneOf f [] = Unit {0}
NoneOf f (m ∷ ms) = (f m ≡ false) × NoneOf f ms

-- the steps of slot k
abbrev pub steps_of : ℕ → List Made → ℕ
steps_of k [] = 0
steps_of k (m ∷ ms) = let n = steps_of k ms in cond (is_step k m.call) (suc n) n

-- the index that an answer removes
abbrev pub removes : Answer → List ℕ
removes done = []
removes (kept n) = []
removes (removal i v) = i ∷ []
removes finished = []
removes (refused n i) = []

-- the removals that the steps of slot k answered
abbrev pub removed_by : ℕ → List Made → List ℕ
removed_by k [] = []
removed_by k (m ∷ ms) = let is = removed_by k ms in cond (is_step k m.call) (removes m.answer ++ is) is

-- among the calls that count, m comes after an opening of slot k that was done, with nothing that would close it between them
pub record Since (ms : List Made) (k : ℕ) (us vs : List Float) (t : Float) (between : List Made) (m : Made) : Type 0 where
  pub earlier : List Made
  pub opening : Made
  pub later : List Made
  pub opens : opening.call ≡ open' k us vs t
  pub was_done : opening.answer ≡ done
  pub among : counted ms ≡ earlier ++ (opening ∷ (between ++ (m ∷ later)))
  pub stays : NoneOf (λ c. closes k c.call) between
