-- What the answer of the tests says of a call. Assumes nothing.
use mathlib.Core.Path.{◌≡◌, refl, sym, ap, ◌∙◌}
use mathlib.Core.Bool.{Bool, true, false, cond}
use mathlib.Core.List.{List, [], ◌∷◌, ◌++◌}
use mathlib.Core.Option.{Option}
use Prim.Native.Nat.{ℕ, zero, suc}
use native.Mathlib.Omega.{arith}
use lib.Dec.{T}
use Rattle.std.specs.Prelude.{⊤, Result, Ok}
use Rattle.rule.specs.declared.Reason.{Reason}
use Rattle.rule.specs.Answers.{Answer, done, refused_for, of_outcome}
use Rattle.rule.specs.Reasons.{Row, first_of}
use Rattle.rule.specs.Whole.{Call}
use Rattle.rule.proofs.Reasons.{lacks, none_given, none_applies}
use Rattle.rule.proofs.Settled.{call_refused}
use Rattle.reasons.specs.Verdict.{verdict}

-- the case that the code has found it to be
pub as_told : {o o' : Result ⊤ Reason} {a : Answer} → o ≡ o' → of_outcome o ≡ a → of_outcome o' ≡ a
as_told e f = ap of_outcome (sym e) ∙ f

-- done: there is no reason
pub accepted : (n : ℕ) (off : Option ℕ) → done ≡ verdict n off → n ≡ 0
accepted zero off e = refl
accepted (suc n) off e = cc

-- refused: so is the call, which has written nothing
pub refused_call : {S : Type 0} {off : Option ℕ} {answer : Answer} {left before : S} (n : ℕ) (w : Reason) → refused_for w ≡ verdict n off
    → Call n off answer left before (refused_for w) before
refused_call zero w e = let z : ◌≡◌ {A = ℕ} 0 1 = cc in absurd (omega arith)
refused_call (suc n) w e = call_refused n refl e refl

-- and so is a call that has these rows first
pub refused_before : (off : Option ℕ) (rs ss : List Row) (w : Reason) → refused_for w ≡ verdict (first_of rs) off → refused_for w ≡ verdict (first_of (rs ++ ss)) off
refused_before off [] ss w e = let z : ◌≡◌ {A = ℕ} 0 1 = cc in absurd (omega arith)
refused_before off (r ∷ rs) ss w e = go r.applies e (refused_before off rs ss w)
  where
    go : (b : Bool) → refused_for w ≡ verdict (cond b r.number (first_of rs)) off
        → (refused_for w ≡ verdict (first_of rs) off → refused_for w ≡ verdict (first_of (rs ++ ss)) off)
        → refused_for w ≡ verdict (cond b r.number (first_of (rs ++ ss))) off
    go true f h = f
    go false f h = h f

-- a call that has these rows first, and passed their tests, goes on with the rows after them
pub rows_passed : {o : Result ⊤ Reason} (off : Option ℕ) (rs ss : List Row) → T (lacks 0 rs) → of_outcome o ≡ verdict (first_of rs) off → o ≡ Ok tt → first_of (rs ++ ss) ≡ first_of ss
rows_passed off rs ss t e d = none_given rs ss (none_applies rs t (accepted (first_of rs) off (as_told d e)))
