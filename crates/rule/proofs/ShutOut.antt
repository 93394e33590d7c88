-- What a call's statement shuts out by name, whatever the code: a refusal for no reason, or one that wrote; a false count, another list, a write
-- past it; scratch left as it was, or touched past the table's size; on an area changed by other hands, a step or a read that refuses of its own
-- accord. Assumes nothing.
use mathlib.Core.Path.{◌≡◌, refl, sym, ap, ◌∙◌}
use mathlib.Core.Logic.{◌≢◌}
use mathlib.Core.Bool.{false, cond, true≢false}
use mathlib.Core.List.{List}
use mathlib.Core.Option.{Option, none}
use Prim.Native.Nat.{ℕ, zero, suc}
use native.Mathlib.Omega.{arith}
use lib.Dec.{eqb}
use lib.ListN.{length, take, drop, replicate}
use lib.Seq.{take_at, drop_at}
use lib.Ieee.{Float}
use Rattle.rule.specs.Sizes.{scratch_floats, scratch_words}
use Rattle.rule.specs.Grid.{Point, points}
use Rattle.rule.specs.Rings.{joined, ends_from, polygon_rule}
use Rattle.rule.specs.Answers.{Answer, done, kept, refused}
use Rattle.rule.specs.Area.{Area, zero_float, cleared}
use Rattle.rule.specs.Reasons.{refusal, first_off_grid, or_zero, repeat_reason, thin_reason, polygon_reason, slot_reason}
use Rattle.rule.specs.Whole.{Call, over, Lists, Lent, Thins, LentRings, ThinsRings}
use Rattle.rule.specs.SlotCalls.{is_refused, Steps, Reads}
use Rattle.rule.proofs.Parts.{cleared_front, cleared_past}

-- ---- any call that its input settles

-- a refusal with the number n and the place i
pub record Refusal {S : Type 0} (reason : ℕ) (off : Option ℕ) (n i : ℕ) (before after : S) : Type 0 where
  pub given : reason ≡ n
  -- never for no reason
  pub not_idle : reason ≢ 0
  pub place : i ≡ cond (eqb n 3) (or_zero off) 0
  pub writes_nothing : after ≡ before

module _ {S : Type 0} {reason : ℕ} {off : Option ℕ} {answer : Answer} {left before after : S} (accepts : is_refused answer ≡ false) where
  pub refusal_is : (n i : ℕ) → Call reason off answer left before (refused n i) after → Refusal reason off n i before after
  refusal_is n i c = go reason refl
    where
      go : (m : ℕ) → reason ≡ m → Refusal reason off n i before after
      go zero z = absurd (true≢false (ap is_refused (c.does z).0 ∙ accepts))
      go (suc m) z = same (c.refuses m z).0
        where
          same : refused n i ≡ refusal (suc m) off → Refusal reason off n i before after
          same e =
              let f : n ≡ suc m = cc in
              let g : i ≡ cond (eqb (suc m) 3) (or_zero off) 0 = cc in
              record {
                given = z ∙ sym f;
                not_idle = λ w. omega (arith, z, w);
                place = g ∙ ap (λ (k : ℕ). cond (eqb k 3) (or_zero off) 0) (sym f);
                writes_nothing = (c.refuses m z).1;
              }

  pub accepted_is : (r : Answer) → is_refused r ≡ false → Call reason off answer left before r after → (reason ≡ 0) × (r ≡ answer) × (after ≡ left)
  accepted_is r h c = go reason refl
    where
      go : (m : ℕ) → reason ≡ m → (reason ≡ 0) × (r ≡ answer) × (after ≡ left)
      go zero z = (z, (c.does z).0, (c.does z).1)
      go (suc m) z = absurd (true≢false (sym (ap is_refused (c.refuses m z).0) ∙ h))

-- ---- the list and the scratch

-- so many were written, they are the list, and past them all is as it was
pub record Written (n : ℕ) (ks out out' : List ℕ) : Type 0 where
  pub count : n ≡ length ks
  pub list : take n out' ≡ ks
  pub past : drop n out' ≡ drop n out

written : (n : ℕ) (ks out out' : List ℕ) → kept n ≡ kept (length ks) → out' ≡ over ks out → Written n ks out out'
written n ks out out' e f =
    let g : length ks ≡ n = cc in
    record {
      count = sym g;
      list = ap (take n) f ∙ take_at ks (drop (length ks) out) n g;
      past = ap (drop n) f ∙ drop_at ks (drop (length ks) out) n g ∙ ap (λ (i : ℕ). drop i out) g;
    }

-- z stands in the first n places, and past them all is as it was
pub record Zeroed {A : Type 0} (z : A) (n : ℕ) (l l' : List A) : Type 0 where
  pub zeros : take n l' ≡ replicate n z
  pub past : drop n l' ≡ drop n l

zeroed_is : {A : Type 0} (z : A) (n : ℕ) (l l' : List A) → l' ≡ cleared z n l → Zeroed z n l l'
zeroed_is z n l l' e = record { zeros = ap (take n) e ∙ cleared_front z n l; past = ap (drop n) e ∙ cleared_past z n l }

pub record ZeroedScratch (points : ℕ) (m m' : Lent) : Type 0 where
  pub floats : Zeroed zero_float (scratch_floats points) m.floats m'.floats
  pub words : Zeroed 0 (scratch_words points) m.words m'.words

scratch_is : (n : ℕ) (m m' : Lent) → m'.floats ≡ cleared zero_float (scratch_floats n) m.floats → m'.words ≡ cleared 0 (scratch_words n) m.words
    → ZeroedScratch n m m'
scratch_is n m m' e f = record {
  floats = zeroed_is zero_float (scratch_floats n) m.floats m'.floats e;
  words = zeroed_is 0 (scratch_words n) m.words m'.words f;
}

-- ---- repeated points

module _ (rule : List Point → List ℕ) (us vs : List Float) (out p : List ℕ) (n : ℕ) where
  pub lists_refusal : (i : ℕ) → Lists rule us vs out (refused n i) p → Refusal (repeat_reason us vs (length out)) (first_off_grid us vs) n i out p
  lists_refusal i c = refusal_is refl n i c

  pub lists_kept : Lists rule us vs out (kept n) p → (repeat_reason us vs (length out) ≡ 0) × Written n (rule (points us vs)) out p
  lists_kept c = let w = accepted_is refl (kept n) refl c in (w.0, written n (rule (points us vs)) out p w.1 w.2)

-- ---- thinning a line

module _ (rule : List Point → Float → List ℕ) (us vs : List Float) (t : Float) (m m' : Lent) (n : ℕ) where
  abbrev line_reason : ℕ
  line_reason = thin_reason us vs t (length m.out) (length m.floats) (length m.words)

  pub thins_refusal : (i : ℕ) → Thins rule us vs t m (refused n i) m' → Refusal line_reason (first_off_grid us vs) n i m m'
  thins_refusal i c = refusal_is refl n i c

  pub thins_kept : Thins rule us vs t m (kept n) m'
      → (line_reason ≡ 0) × Written n (rule (points us vs) t) m.out m'.out × ZeroedScratch (length us) m m'
  thins_kept c =
      let w = accepted_is refl (kept n) refl c in (
        w.0,
        written n (rule (points us vs) t) m.out m'.out w.1 (ap (λ (l : Lent). l.out) w.2),
        scratch_is (length us) m m' (ap (λ (l : Lent). l.floats) w.2) (ap (λ (l : Lent). l.words) w.2),
      )

-- ---- thinning a polygon

module _ (us vs : List Float) (t : Float) (table : List ℕ) (m m' : LentRings) (n : ℕ) where
  abbrev rings_reason : ℕ
  rings_reason = polygon_reason us vs t table (length m.line.out) (length m.ring_out) (length m.line.floats) (length m.line.words)

  abbrev rings : List (List ℕ)
  rings = polygon_rule (points us vs) t table

  pub rings_refusal : (i : ℕ) → ThinsRings us vs t table m (refused n i) m' → Refusal rings_reason (first_off_grid us vs) n i m m'
  rings_refusal i c = refusal_is refl n i c

  pub rings_kept : ThinsRings us vs t table m (kept n) m'
      → (rings_reason ≡ 0) × Written n (joined rings) m.line.out m'.line.out × Written (length (ends_from 0 rings)) (ends_from 0 rings) m.ring_out m'.ring_out
      × ZeroedScratch (length us) m.line m'.line
  rings_kept c =
      let w = accepted_is refl (kept n) refl c in (
        w.0,
        written n (joined rings) m.line.out m'.line.out w.1 (ap (λ (l : LentRings). l.line.out) w.2),
        written (length (ends_from 0 rings)) (ends_from 0 rings) m.ring_out m'.ring_out refl (ap (λ (l : LentRings). l.ring_out) w.2),
        scratch_is (length us) m.line m'.line (ap (λ (l : LentRings). l.line.floats) w.2) (ap (λ (l : LentRings). l.line.words) w.2),
      )

-- ---- slots, whatever the area holds

module _ (Rep : Area → List Point → Float → List ℕ → Type 0) (k : ℕ) (a b : Area) (n i : ℕ) where
  pub steps_refusal : Steps Rep k a (refused n i) b → Refusal (slot_reason k a) none n i a b
  steps_refusal c = refusal_is refl n i call
    where
      call : Call (slot_reason k a) none done b a (refused n i) b
      call = record { refuses = c.refuses; does = λ z. absurd (true≢false (c.answers z)) }

  -- of an open slot, only for want of room
  pub reads_refusal : (out p : List ℕ) → Reads Rep k a out (refused n i) p → slot_reason k a ≡ 0 → Refusal 7 none n i out p
  reads_refusal out p c z =
      let w = c.short z n i refl in
      record { given = sym w.0; not_idle = λ e. omega (arith, e); place = rw (w.0, w.1); writes_nothing = w.2 }
