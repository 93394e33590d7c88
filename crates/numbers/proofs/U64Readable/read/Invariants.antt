-- The value with the digits from here on is the number, and past them is past it. Assumes nothing.
use Rattle.std.proofs.Common.{◌≡◌, ◌-◌, length, drop}
use Rattle.numbers.specs.Reading.{is_digit, past, with_digits, number, past_number}
use Rattle.numbers.proofs.U64Readable.read.Given as goal

abbrev pub invariant-loop-from : goal.invariant-loop-from
invariant-loop-from l = record {
  text : l.from.text ≡ l.fn.from.text;
  value : with_digits l.value (drop l.from.at l.from.text.now) ≡ number l.fn.from.text.now l.fn.from.at;
  past : past is_digit l.from.text.now l.from.at ≡ past_number l.fn.from.text.now l.fn.from.at;
}

abbrev pub decreases-loop-from : goal.decreases-loop-from
decreases-loop-from l = length l.from.text.now - l.from.at
