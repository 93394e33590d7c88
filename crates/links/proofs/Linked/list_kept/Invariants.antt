use Rattle.links.specs.Words.{mark_at}
use Rattle.links.proofs.Listing.{Listing}
use Rattle.links.proofs.Linked.list_kept.Given as goal

abbrev pub invariant-loop-i : goal.invariant-loop-i
invariant-loop-i l = Listing (mark_at l.self.words.now l.self.m) l.initial.out l.out l.i l.count
