use Prim.Native.Nat.{ℕ, ◌<◌}
use Rattle.machine.specs.Uses.{Register}
use Rattle.unset.specs.Answer.{ReadUnset}
use Rattle.unset.proofs.finding.lowest.Given as goal

abbrev pub invariant-loop-order : goal.invariant-loop-order
invariant-loop-order l = (q : ℕ) → q < l.order → (t : Register) → ReadUnset l.deck q t → ⊥
