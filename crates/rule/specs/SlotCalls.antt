-- What a slot call promises, for all inputs and all contents of the work area. `Rep` says of a slot's part which points and tolerance it holds
-- and which indices are left. Assumes nothing.
use Rattle.std.specs.Prelude.{◌≡◌, Bool, true, false, List, ℕ, suc, ◌≤◌, length, drop, Float}
use Rattle.std.proofs.Math.Option.{Option, none, some}
use Rattle.rule.specs.Grid.{Point, points}
use Rattle.rule.specs.Plain.{Candidate, all, next, without}
use Rattle.rule.specs.Answers.{Answer, done, kept, removal, finished, refused}
use Rattle.rule.specs.Area.{Area, part, zeroed, closed_at, OnlyPart}
use Rattle.rule.specs.Reasons.{first_off_grid, refusal, clear_reason, open_reason, slot_reason, read_reason}
use Rattle.rule.specs.Whole.{Call, over}
use Rattle.rule.specs.Slots.{step_answer}

abbrev pub is_refused : Answer → Bool
is_refused done = false
is_refused (kept n) = false
is_refused (removal i v) = false
is_refused finished = false
is_refused (refused n i) = true

abbrev pub less_by : Option Candidate → List ℕ → List ℕ
less_by none ks = ks
less_by (some c) ks = without c.current ks

-- ---- settled by the input

abbrev pub Clears : Area → Answer → Area → Type 0
Clears a r b = Call (clear_reason a) none done (zeroed a) a r b

abbrev pub Closes : ℕ → Area → Answer → Area → Type 0
Closes k a r b = Call (slot_reason k a) none done (closed_at k a) a r b

-- ---- the arrangement inside an open slot is left open

module _ (Rep : Area → List Point → Float → List ℕ → Type 0) where
  pub record Opens (k : ℕ) (us vs : List Float) (t : Float) (a : Area) (r : Answer) (b : Area) : Type 0 where
    pub refuses : (n : ℕ) → open_reason k us vs t a ≡ suc n → (r ≡ refusal (suc n) (first_off_grid us vs)) × (b ≡ a)
    pub only : OnlyPart k a b
    pub does : open_reason k us vs t a ≡ 0 → (r ≡ done) × Rep (part k b) (points us vs) t (all (points us vs))

  pub record Steps (k : ℕ) (a : Area) (r : Answer) (b : Area) : Type 0 where
    pub refuses : (n : ℕ) → slot_reason k a ≡ suc n → (r ≡ refusal (suc n) none) × (b ≡ a)
    pub only : OnlyPart k a b
    -- on an area changed by other hands too
    pub answers : slot_reason k a ≡ 0 → is_refused r ≡ false
    pub does : slot_reason k a ≡ 0 → (ps : List Point) (t : Float) (ks : List ℕ) → Rep (part k a) ps t ks
        → (r ≡ step_answer (next ps t ks)) × Rep (part k b) ps t (less_by (next ps t ks) ks)

  -- the area is lent to be read, so it stays as it is
  pub record Reads (k : ℕ) (a : Area) (out : List ℕ) (r : Answer) (out' : List ℕ) : Type 0 where
    pub refuses : (n : ℕ) → slot_reason k a ≡ suc n → (r ≡ refusal (suc n) none) × (out' ≡ out)
    -- on an area changed by other hands too: no other reason than 7, a refusal writes nothing, and nothing past the list is touched
    pub short : slot_reason k a ≡ 0 → (n i : ℕ) → r ≡ refused n i → (n ≡ 7) × (i ≡ 0) × (out' ≡ out)
    pub past : (n : ℕ) → r ≡ kept n → (n ≤ length out) × (length out' ≡ length out) × (drop n out' ≡ drop n out)
    pub does : (ps : List Point) (t : Float) (ks : List ℕ) → Rep (part k a) ps t ks
        → Call (read_reason k a (length out) (length ks)) none (kept (length ks)) (over ks out) out r out'
