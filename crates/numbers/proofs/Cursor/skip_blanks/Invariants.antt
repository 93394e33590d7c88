-- It passes blanks. Assumes nothing.
use Rattle.numbers.specs.Reading.{is_blank}
use Rattle.numbers.proofs.Cursor.skip_blanks.Given as goal

abbrev pub ghost-pass : goal.ghost-pass
ghost-pass a = is_blank
