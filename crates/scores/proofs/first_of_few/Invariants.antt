use Rattle.scores.specs.Children.{First}
use Rattle.scores.proofs.first_of_few.Given as goal

abbrev pub invariant-loop-d : goal.invariant-loop-d
invariant-loop-d l = First l.floats l.words l.m l.c l.d l.first
