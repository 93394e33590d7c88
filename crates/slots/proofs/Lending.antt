-- A slot's part lent on to be written, and the area with the part put back. Each law is stated over the size of a part first, so that nothing is
-- computed at the true sizes. Assumes nothing.
use mathlib.Core.Path.{◌≡◌, sym, ap, ◌∙◌, subst}
use mathlib.Core.List.{List, ◌++◌}
use Prim.Native.Nat.{ℕ, suc, ◌+◌, ◌-◌, ◌*◌, ◌≤◌}
use native.Mathlib.Omega.{arith}
use native.Mathlib.Nat.{suc-mul}
use lib.ListN.{length, take, drop, replicate}
use lib.Ieee.{Float}
use borrow.Rule.Slice.PartMut.{mid_of, put_mid, Post-is}
use Rattle.std.specs.declared.ops.Range.{Range}
use Rattle.rule.specs.Sizes.{slot_floats, slot_words}
use Rattle.rule.specs.Area.{Area, area, piece, part, zero_float, cleared_piece, closed_at, OnlyPiece, OnlyPart}
use Rattle.rule.proofs.Parts.{piece_length, put_piece, put_only}
use Rattle.slot_reasons.proofs.Reasons.{HasSlot, below, long_enough}

-- the k-th part of n places stands from a to e
abbrev pub Spans : ℕ → ℕ → Range ℕ → Type 0
Spans n k r = (r.start ≡ k * n) × (r.end ≡ r.start + n)

-- ---- one list

module _ {A : Type 0} (n k : ℕ) (r : Range ℕ) (l : List A) (at : Spans n k r) where
  abbrev mid : List A
  mid = mid_of r.start (r.end - r.start) l

  abbrev put : List A → List A
  put p = put_mid r.start (r.end - r.start) l p

  size : r.end - r.start ≡ n
  size = omega arith

  end : r.end ≡ suc k * n
  end = omega (arith, suc-mul k n)

  mid_is : mid ≡ piece n k l
  mid_is = ap (λ (i : ℕ). take i (drop r.start l)) size ∙ ap (λ (i : ℕ). take n (drop i l)) at.0

  put_is : (p : List A) → put p ≡ take (k * n) l ++ (p ++ drop (suc k * n) l)
  put_is p =
      ap (λ (t : List A). take r.start l ++ (p ++ t)) (Post-is r.start r.end l (omega arith) ∙ ap (λ (i : ℕ). drop i l) end)
      ∙ ap (λ (i : ℕ). take i l ++ (p ++ drop (suc k * n) l)) at.0

  module _ (fits : suc k * n ≤ length l) where
    mid_length : length mid ≡ n
    mid_length = ap length mid_is ∙ piece_length n k l fits

    module _ (p : List A) (full : length p ≡ n) where
      piece_put : piece n k (put p) ≡ p
      piece_put = ap (piece n k) (put_is p) ∙ put_piece n k l p full fits

      only_put : OnlyPiece n k l (put p)
      only_put = subst (OnlyPiece n k l) (sym (put_is p)) (put_only n k l p full fits)

    -- zeros put back
    zeros_put : (z : A) → put (replicate (length mid) z) ≡ cleared_piece z n k l
    unfolding cleared_piece
    zeros_put z = put_is (replicate (length mid) z) ∙ ap (λ (i : ℕ). take (k * n) l ++ (replicate i z ++ drop (suc k * n) l)) mid_length

-- ---- the area

module _ {k : ℕ} {g : Area} (has : HasSlot k g) (r : Range ℕ × Range ℕ) (floats : Spans slot_floats k r.0) (words : Spans slot_words k r.1) where
  abbrev lent : Area
  lent = area (mid slot_floats k r.0 g.floats floats) (mid slot_words k r.1 g.words words)

  abbrev back : List Float → List ℕ → Area
  back p q = area (put slot_floats k r.0 g.floats floats p) (put slot_words k r.1 g.words words q)

  floats_fit : suc k * slot_floats ≤ length g.floats
  floats_fit = omega (arith, below has, (long_enough has).floats)

  words_fit : suc k * slot_words ≤ length g.words
  words_fit = omega (arith, below has, (long_enough has).words)

  pub floats_end : r.0.end ≤ length g.floats
  floats_end = omega (arith, floats_fit, end slot_floats k r.0 g.floats floats)

  pub words_end : r.1.end ≤ length g.words
  words_end = omega (arith, words_fit, end slot_words k r.1 g.words words)

  pub lent_part : lent ≡ part k g
  lent_part = λ i. record { floats = mid_is slot_floats k r.0 g.floats floats i; words = mid_is slot_words k r.1 g.words words i }

  pub lent_floats : length lent.floats ≡ slot_floats
  lent_floats = mid_length slot_floats k r.0 g.floats floats floats_fit

  pub lent_words : length lent.words ≡ slot_words
  lent_words = mid_length slot_words k r.1 g.words words words_fit

  module _ (p : List Float) (q : List ℕ) (fp : length p ≡ length lent.floats) (fq : length q ≡ length lent.words) where
    pub back_part : part k (back p q) ≡ area p q
    back_part = λ i. record {
      floats = piece_put slot_floats k r.0 g.floats floats floats_fit p (fp ∙ lent_floats) i;
      words = piece_put slot_words k r.1 g.words words words_fit q (fq ∙ lent_words) i;
    }

    pub back_only_part : OnlyPart k g (back p q)
    back_only_part = record {
      floats = only_put slot_floats k r.0 g.floats floats floats_fit p (fp ∙ lent_floats);
      words = only_put slot_words k r.1 g.words words words_fit q (fq ∙ lent_words);
    }

    -- what was done to the lent part was done to the slot's
    pub on_part : (S : Area → Area → Type 0) → S lent (area p q) → S (part k g) (part k (back p q))
    on_part S h = subst (λ (b : Area). S (part k g) b) (sym back_part) (subst (λ (b : Area). S b (area p q)) lent_part h)

  pub closed : {p : List Float} {q : List ℕ} → p ≡ replicate (length lent.floats) zero_float → q ≡ replicate (length lent.words) 0 → back p q ≡ closed_at k g
  unfolding closed_at
  closed e f = λ i. record {
    floats = (ap (put slot_floats k r.0 g.floats floats) e ∙ zeros_put slot_floats k r.0 g.floats floats floats_fit zero_float) i;
    words = (ap (put slot_words k r.1 g.words words) f ∙ zeros_put slot_words k r.1 g.words words words_fit 0) i;
  }
