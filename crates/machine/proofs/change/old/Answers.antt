-- `machine::change::old` meets its contract: each arm computes its case; its places are there.
-- Assumes nothing.
use Rattle.std.proofs.Common.{arith}
use Rattle.machine.proofs.Placed.{registered_float, registered_pair, placed_two, placed_four}
use Rattle.machine.proofs.change.old.Goals as goal

pub bounds-float-r : goal.bounds-float-r
bounds-float-r c = omega (arith, registered_float c.in-Float.is c.requires.0)

pub bounds-float-r-in-Pair : goal.bounds-float-r-in-Pair
bounds-float-r-in-Pair c = omega (arith, registered_pair c.in-Pair.is c.requires.0)

pub word_at-requires : goal.word_at-requires
word_at-requires c = placed_two c.in-Two.is c.requires.1

pub long_at-a-requires : goal.long_at-a-requires
long_at-a-requires c = placed_four c.in-Four.is c.requires.1
