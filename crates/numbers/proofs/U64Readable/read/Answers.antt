-- `u64::read` meets its contract: a digit that comes next is added to the value. Assumes nothing.
use Rattle.std.proofs.Common.{ℕ, ◌+◌, drop, sym, ap, ◌∙◌, arith}
use Rattle.std.proofs.lemmas.Grind.{common_steps}
use Rattle.numbers.specs.Reading.{is_digit, with_digit, with_digits}
use Rattle.numbers.proofs.Reading.{digits_on}
use Rattle.numbers.proofs.U64Readable.read.Goals as goal

pub loop-from-preserved : goal.loop-from-preserved
loop-from-preserved c =
    let text = c.loop-from.from.text.now in
    let at = c.loop-from.from.at in
    let digit = ap is_digit (sym c.byte.ensures) ∙ sym c.is_ascii_digit.ensures.value ∙ c.loop-from-test.true in
    let value = c.with_digit-value.ensures ∙ ap (with_digit c.loop-from.value) c.byte-in-loop-from.ensures in
    record {
      text = c.loop-from.invariant.text;
      value =
          ap (λ (v : ℕ). with_digits v (drop (at + 1) text)) value ∙ sym (digits_on text at c.loop-from.value (grind (arith, common_steps)) digit)
          ∙ c.loop-from.invariant.value;
      past = grind (arith, common_steps);
    }
