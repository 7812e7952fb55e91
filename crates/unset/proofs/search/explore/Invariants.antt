use Rattle.unset.proofs.Exploring.{Searching}
use Rattle.unset.proofs.Gains.{left}
use Rattle.unset.proofs.search.explore.Given as goal

abbrev pub invariant-loop-place : goal.invariant-loop-place
invariant-loop-place l = Searching l.deck l.search

abbrev pub decreases-loop-place : goal.decreases-loop-place
decreases-loop-place l = left l.search
