-- `ending::finish` meets its contract. Assumes nothing.
use native.Mathlib.Omega.{arith}
use Rattle.ending.proofs.Whole.{few_listed, listed_keeps}
use Rattle.ending.proofs.finish.Goals as goal

pub returns : goal.returns
returns c =
    listed_keeps c.scratch.ensures c.requires.1 c.list_kept-count.ensures c.zero_scratch.ensures.0 c.zero_scratch.ensures.1

pub overflow_cast-result : goal.overflow_cast-result
overflow_cast-result c =
    omega (arith, few_listed c.scratch.ensures c.requires.1 c.list_kept-count.ensures)
