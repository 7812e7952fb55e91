-- The number is cut to five digits.
use Rattle.std.proofs.Common.{◌<◌}
use Rattle.decks.proofs.length_of.Given as goal

abbrev pub invariant-loop-b : goal.invariant-loop-b
invariant-loop-b l = l.n < 100000
