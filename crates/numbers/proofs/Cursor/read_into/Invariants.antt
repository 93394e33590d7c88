-- So many were read as places were filled. Assumes nothing.
use Rattle.std.proofs.Common.{◌≡◌, take}
use Rattle.numbers.specs.Reading.{past_all, all}
use Rattle.numbers.proofs.Cursor.read_into.Given as goal

abbrev pub invariant-loop-place : goal.invariant-loop-place
invariant-loop-place g l =
    (l.self ≡ record l.fn.self { at = past_all (g.T.Readable.next l.fn.self.text.now) l.fn.self.at l.place-index })
    × (take l.place-index l.place-items ≡ all (g.T.Readable.value l.fn.self.text.now) (g.T.Readable.next l.fn.self.text.now) l.fn.self.at l.place-index)
