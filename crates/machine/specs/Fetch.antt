-- The operands of an order, asked without a step (document 02, Job 5).
use Rattle.std.specs.Prelude.{Result, Ok, Err, ℕ, List, length}
use Rattle.hexfloat.specs.Answer.{Answer, gives, stops, provided, and_then}
use Rattle.orders.specs.declared.order.Operation.{Operation}
use Rattle.orders.specs.declared.order.Order.{Order}
use Rattle.orders.specs.Order.{legal_of, span_of}
use Rattle.machine.specs.declared.fetching.Operands.{Operands}
use Rattle.machine.specs.declared.stop.Stop.{Stop}
use Rattle.machine.specs.Check.{present}
use Rattle.machine.specs.Operand.{float_operand, second_operand}
use Rattle.machine.specs.Stops.{number_of}

-- R r1 or pair r1, and the second operand, where S is at a and general registers are of set s
abbrev pub operands_of : Order → List ℕ → List ℕ → ℕ → List ℕ → ℕ → Operation → Operands
operands_of o f n s m a op = record {
  operation = op;
  first = float_operand op.width f o.r1;
  second = second_operand op.place op.width o f n s m a;
}

-- of a legal order whose S is there; else the number of the check that it does not pass
unfoldable pub operands_read : Order → List ℕ → List ℕ → ℕ → List ℕ → ℕ → Answer Operands
operands_read o f n s m a = and_then (legal_of o) (λ op. provided (present (span_of op) a (length m)) 6 (gives (operands_of o f n s m a op)))

-- what the code's answer says
abbrev pub says_fetched : Result Operands Stop → Answer Operands
says_fetched (Ok q) = gives q
says_fetched (Err k) = stops (number_of k)
