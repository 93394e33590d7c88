-- What is past the bytes of the kind from here on is past those from the start on. Assumes nothing.
use Rattle.std.proofs.Common.{◌≡◌, ◌-◌, ◌≤◌, length}
use Rattle.numbers.specs.Reading.{past}
use Rattle.numbers.proofs.Cursor.pass.Given as goal

abbrev pub invariant-loop-self : goal.invariant-loop-self
invariant-loop-self g l = record {
  text : l.self.text ≡ l.fn.self.text;
  past : past g.kind l.self.text.now l.self.at ≡ past g.kind l.fn.self.text.now l.fn.self.at;
  on : l.fn.self.at ≤ l.self.at;
}

abbrev pub decreases-loop-self : goal.decreases-loop-self
decreases-loop-self g l = length l.self.text.now - l.self.at
