-- It passes what is no line's end. Assumes nothing.
use Rattle.std.proofs.Common.{◌==◌, not}
use Rattle.numbers.proofs.Cursor.next_line.Given as goal

abbrev pub ghost-pass : goal.ghost-pass
ghost-pass a = λ b. not (b == 10)
