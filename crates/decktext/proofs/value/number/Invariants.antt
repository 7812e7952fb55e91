use Rattle.decktext.proofs.Digits.{Number}
use Rattle.decktext.proofs.value.number.Given as goal

abbrev pub invariant-loop-b : goal.invariant-loop-b
invariant-loop-b l = Number l.base l.v l.n l.b-index
