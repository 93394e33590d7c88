use Rattle.links.specs.Words.{mark_at}
use Rattle.links.proofs.Listing.{Counting}
use Rattle.links.proofs.Linked.count_below.Given as goal

abbrev pub invariant-loop-i : goal.invariant-loop-i
invariant-loop-i l = Counting (mark_at l.self.words.now l.self.m) l.i l.below
