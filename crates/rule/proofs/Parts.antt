-- Laws of the work area: what a change of one slot's part leaves alone, what closing and clearing leave, and lengths. Assumes nothing.
-- Each is stated over the size of a part first, so that nothing is computed at the true sizes.
use mathlib.Core.Path.{◌≡◌, refl, sym, ap, ◌∙◌, subst}
use mathlib.Core.Logic.{◌≢◌}
use mathlib.Core.Bool.{Bool, true, false, not}
use mathlib.Core.List.{List, [], ◌∷◌, ◌++◌, append_assoc}
use Prim.Native.Nat.{ℕ, zero, suc, ◌+◌, ◌-◌, ◌*◌, ◌≤◌, ◌<◌}
use native.Mathlib.Omega.{arith}
use native.Mathlib.Nat.{mul-le-mul_right, zero-add, suc-add, suc-mul}
use lib.Dec.{ltb, eqb}
use lib.ListN.{length, take, drop, get_or, replicate, length-append, length-drop, length-replicate, get_or-replicate, get_or-append}
use lib.Seq.{take-nil, take-take, drop-drop, get_or-take, get_or-drop, take_at, drop_at, length-take-le}
use lib.Ieee.{Float}
use borrow.Author.Tests.{ltb-true, ltb-false, le-ltb}
use Rattle.std.proofs.lemmas.Bool.{or_parts}
use Rattle.rule.specs.Sizes.{slots, slot_floats, slot_words, area_floats, area_words}
use Rattle.rule.specs.Area.{Area, area, piece, part, is_open, zero_float, cleared, cleared_piece, zeroed, closed_at, OnlyPiece, OnlyPart}
use Rattle.rule.specs.Reasons.{area_short}

-- ---- parts of one list

module _ {A : Type 0} where
  drop_take : (m n : ℕ) (l : List A) → take n (drop m l) ≡ drop m (take (m + n) l)
  drop_take zero n l = rw zero-add
  drop_take (suc m) n [] = rw (suc-add, take-nil)
  drop_take (suc m) n (x ∷ l) = rw suc-add (drop_take m n l)

  -- what ends before i, or starts after it, is seen in what stands there
  seen_before : (m n i : ℕ) (l l' : List A) → m + n ≤ i → take i l' ≡ take i l → take n (drop m l') ≡ take n (drop m l)
  seen_before m n i l l' h e =
      drop_take m n l' ∙ ap (drop m) (sym (take-take (m + n) i l' h) ∙ ap (take (m + n)) e ∙ take-take (m + n) i l h) ∙ sym (drop_take m n l)

  seen_after : (m n i : ℕ) (l l' : List A) → i ≤ m → drop i l' ≡ drop i l → take n (drop m l') ≡ take n (drop m l)
  seen_after m n i l l' h e =
      ap (take n) (subst (λ (j : ℕ). drop j l' ≡ drop j l) (back h) (sym (drop-drop (m - i) i l') ∙ ap (drop (m - i)) e ∙ drop-drop (m - i) i l))
    where
      back : i ≤ m → i + (m - i) ≡ m
      back g = omega arith

  pub other_piece : (n j k : ℕ) (l l' : List A) → OnlyPiece n k l l' → j ≢ k → piece n j l' ≡ piece n j l
  other_piece n j k l l' o ne = go (ltb j k) refl
    where
      go : (b : Bool) → ltb j k ≡ b → piece n j l' ≡ piece n j l
      go true e = seen_before (j * n) n (k * n) l l' (rw suc-mul at (mul-le-mul_right n (ltb-true j k e))) o.before
      go false e = seen_after (j * n) n (suc k * n) l l' (mul-le-mul_right n (omega (arith, ltb-false j k e))) o.after

  -- two changes of the same part differ in that part only
  only_both : (n k : ℕ) (l l' l'' : List A) → OnlyPiece n k l l' → OnlyPiece n k l l'' → OnlyPiece n k l' l''
  only_both n k l l' l'' o p = record { before = p.before ∙ sym o.before; after = p.after ∙ sym o.after; level = p.level ∙ sym o.level }

  pub piece_length : (n k : ℕ) (l : List A) → suc k * n ≤ length l → length (piece n k l) ≡ n
  piece_length n k l h = length-take-le n (drop (k * n) l) (rw length-drop (omega (arith, suc-mul k n)))

  pub piece_at : (n k : ℕ) (l : List A) (i : ℕ) (d : A) → i < n → get_or (piece n k l) i d ≡ get_or l (k * n + i) d
  piece_at n k l i d h = get_or-take n (drop (k * n) l) i d h ∙ get_or-drop (k * n) l i d

  -- another part put for the k-th
  module _ (n k : ℕ) (l p : List A) (full : length p ≡ n) (fits : suc k * n ≤ length l) where
    head_length : length (take (k * n) l) ≡ k * n
    head_length = length-take-le (k * n) l (omega (arith, suc-mul k n))

    pub put_piece : piece n k (take (k * n) l ++ (p ++ drop (suc k * n) l)) ≡ p
    put_piece = ap (take n) (drop_at (take (k * n) l) (p ++ drop (suc k * n) l) (k * n) head_length) ∙ take_at p (drop (suc k * n) l) n full

    pub put_only : OnlyPiece n k l (take (k * n) l ++ (p ++ drop (suc k * n) l))
    put_only = record {
      before = take_at (take (k * n) l) (p ++ drop (suc k * n) l) (k * n) head_length;
      after = ap (drop (suc k * n)) (sym (append_assoc (take (k * n) l) p (drop (suc k * n) l)))
          ∙ drop_at (take (k * n) l ++ p) (drop (suc k * n) l) (suc k * n) (length-append (take (k * n) l) p ∙ omega (arith, head_length, full, suc-mul k n));
      level = simp (length-append, length-drop) (omega (arith, head_length, full, suc-mul k n));
    }

-- ---- the area is long enough

pub record Long (a : Area) : Type 0 where
  pub floats : area_floats ≤ length a.floats
  pub words : area_words ≤ length a.words

pub long : (a : Area) → (area_short a).applies ≡ false → Long a
long a e =
    let h = or_parts (ltb (length a.floats) area_floats) (ltb (length a.words) area_words) e in
    record { floats = ltb-false (length a.floats) area_floats h.0; words = ltb-false (length a.words) area_words h.1 }

pub not_short : (a : Area) → Long a → (area_short a).applies ≡ false
not_short a h = rw (le-ltb (length a.floats) area_floats h.floats, le-ltb (length a.words) area_words h.words)

-- ---- one part changed

pub other_part : (j k : ℕ) (a b : Area) → OnlyPart k a b → j ≢ k → part j b ≡ part j a
other_part j k a b o ne = λ i. record {
  floats = other_piece slot_floats j k a.floats b.floats o.floats ne i;
  words = other_piece slot_words j k a.words b.words o.words ne i;
}

pub both_only : (k : ℕ) (a b c : Area) → OnlyPart k a b → OnlyPart k a c → OnlyPart k b c
both_only k a b c o p = record {
  floats = only_both slot_floats k a.floats b.floats c.floats o.floats p.floats;
  words = only_both slot_words k a.words b.words c.words o.words p.words;
}

pub unchanged : (k : ℕ) (a : Area) → OnlyPart k a a
unchanged k a = record { floats = record { before = refl; after = refl; level = refl }; words = record { before = refl; after = refl; level = refl } }

pub still_long : {k : ℕ} {a b : Area} → OnlyPart k a b → Long a → Long b
still_long o h = record { floats = omega (arith, o.floats.level); words = omega (arith, o.words.level) }

-- ---- close

module _ {A : Type 0} (z : A) (n k : ℕ) (l : List A) (fits : suc k * n ≤ length l) where
  cleared_piece_lem : piece n k (cleared_piece z n k l) ≡ replicate n z
  unfolding cleared_piece
  cleared_piece_lem = put_piece n k l (replicate n z) (length-replicate n z) fits

  cleared_only : OnlyPiece n k l (cleared_piece z n k l)
  unfolding cleared_piece
  cleared_only = put_only n k l (replicate n z) (length-replicate n z) fits

pub closed_part : (k : ℕ) (a : Area) → k < slots → Long a → part k (closed_at k a) ≡ area (replicate slot_floats zero_float) (replicate slot_words 0)
unfolding closed_at
closed_part k a h g = λ i. record {
  floats = cleared_piece_lem zero_float slot_floats k a.floats (omega arith) i;
  words = cleared_piece_lem 0 slot_words k a.words (omega arith) i;
}

pub closed_only : (k : ℕ) (a : Area) → k < slots → Long a → OnlyPart k a (closed_at k a)
unfolding closed_at
closed_only k a h g = record {
  floats = cleared_only zero_float slot_floats k a.floats (omega arith);
  words = cleared_only 0 slot_words k a.words (omega arith);
}

zeros_not_open : (fs : List Float) (n : ℕ) → 0 < n → is_open (area fs (replicate n 0)) ≡ false
unfolding is_open
zeros_not_open fs n h = ap (λ (w : ℕ). not (eqb w 0)) (get_or-replicate n 0 0 0 h)

pub closed_not_open : (k : ℕ) (a : Area) → k < slots → Long a → is_open (part k (closed_at k a)) ≡ false
closed_not_open k a h g = ap is_open (closed_part k a h g) ∙ zeros_not_open (replicate slot_floats zero_float) slot_words (omega arith)

-- ---- clear

module _ {A : Type 0} (z : A) (n : ℕ) (l : List A) where
  cleared_long : n ≤ length (cleared z n l)
  unfolding cleared
  cleared_long = simp (length-append, length-replicate) (omega arith)

  pub cleared_at : (i : ℕ) (d : A) → i < n → get_or (cleared z n l) i d ≡ z
  unfolding cleared
  cleared_at i d h = get_or-append (replicate n z) (drop n l) d i (rw length-replicate h) ∙ get_or-replicate n i z d h

  pub cleared_front : take n (cleared z n l) ≡ replicate n z
  unfolding cleared
  cleared_front = take_at (replicate n z) (drop n l) n (length-replicate n z)

  pub cleared_past : drop n (cleared z n l) ≡ drop n l
  unfolding cleared
  cleared_past = drop_at (replicate n z) (drop n l) n (length-replicate n z)

pub zeroed_long : (a : Area) → Long (zeroed a)
unfolding zeroed
zeroed_long a = record { floats = cleared_long zero_float area_floats a.floats; words = cleared_long 0 area_words a.words }

pub zeroed_not_open : (j : ℕ) (a : Area) → j < slots → is_open (part j (zeroed a)) ≡ false
unfolding is_open zeroed
zeroed_not_open j a h = first_word slot_words area_words (omega arith) (omega arith)
  where
    first_word : (n m : ℕ) → 0 < n → j * n + 0 < m → not (eqb (get_or (piece n j (cleared 0 m a.words)) 0 0) 0) ≡ false
    first_word n m h g = ap (λ (w : ℕ). not (eqb w 0)) (piece_at n j (cleared 0 m a.words) 0 0 h ∙ cleared_at 0 m a.words (j * n + 0) 0 g)
