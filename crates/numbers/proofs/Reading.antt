-- What was read into a list so far, and the laws of one more and of one more digit. Assumes nothing.
use Rattle.std.proofs.Common.{◌≡◌, ℕ, suc, ◌+◌, ◌<◌, true, List, length, get_or, take, drop, set, refl, sym, ap, ◌∙◌, add-one, arith, length-set, drop-cons, drop-drop, take-suc-set, drop-set-lt}
use Rattle.std.proofs.lemmas.List.Sums.{take_while-cons}
use Rattle.numbers.specs.Reading.{byte_at, is_digit, with_digit, with_digits, past_all, all}

-- i values are read, and the next is read at a place
pub record Read {A : Type 0} (value : ℕ → A) (next : ℕ → ℕ) (at : ℕ) (into into' : List A) (place i : ℕ) : Type 0 where
  pub far : place ≡ past_all next at i
  pub front : take i into' ≡ all value next at i
  pub rest : drop i into' ≡ drop i into
  pub long : length into' ≡ length into

module _ {A : Type 0} (value : ℕ → A) (next : ℕ → ℕ) (at : ℕ) (into : List A) where
  pub one_more : {into' : List A} {place i : ℕ} (v : A) (q : ℕ) → Read value next at into into' place i → i < length into → v ≡ value place → q ≡ next place
      → Read value next at into (set into' i v) q (i + 1)
  one_more {into'} {place} {i} v q r h e f =
      record {
        far = rw add-one (cc);
        front = rw (add-one, take-suc-set into' i v (omega arith)) (cc);
        rest = drop-set-lt (i + 1) into' i v (omega arith) ∙ sym (drop-drop 1 i into') ∙ ap (drop 1) r.rest ∙ drop-drop 1 i into;
        long = length-set into' i v ∙ r.long;
      }

-- a digit that comes next is added to the value
pub digits_on : (text : List ℕ) (i v : ℕ) → i < length text → is_digit (byte_at text i) ≡ true
    → with_digits v (drop i text) ≡ with_digits (with_digit v (byte_at text i)) (drop (i + 1) text)
digits_on text i v h e = rw (drop-cons text i 10 h, take_while-cons is_digit (get_or text i 10) (drop (suc i) text), e, add-one) refl
