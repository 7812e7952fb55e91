-- A step (document 01, 'Orders' and 'Causes and their numbers'; document 02, Job 12). W is what steps are taken in: the machine, or the trail of condition 3.
use Rattle.std.specs.Prelude.{Option, None, ℕ, ◌+◌, cond, List, length, ◌==◌}
use Rattle.hexfloat.specs.Answer.{Answer, gives, stops}
use Rattle.orders.specs.declared.order.Order.{Order}
use Rattle.orders.specs.Order.{order_at}
use Rattle.protection.specs.Form.{ProtectList}
use Rattle.machine.specs.declared.verdict.Effect.{Effect}
use Rattle.machine.specs.Decide.{pointer_of, decided}
use Rattle.machine.specs.Machine.{Machine, committed}
use Rattle.machine.specs.Operand.{address_in}
use Rattle.machine.specs.Seats.{registers_of}

-- what stands after a call, the steps that it took, 0 or the number of its stop, and whose step it took back
pub record Outcome (W : Type 0) : Type 0 where
  pub after : W
  pub taken : ℕ
  pub stop : ℕ
  pub whose : Option ℕ

-- of a call that took no step back
abbrev pub outcome : {W : Type 0} → W → ℕ → ℕ → Outcome W
outcome x n k = record { after = x; taken = n; stop = k; whose = None }

-- a call that takes one step unless it stops
abbrev pub single : {W : Type 0} → W → ℕ → Outcome W
single x k = outcome x (cond (k == 0) 1 0) k

-- one step more before an outcome
abbrev pub counted : {W : Type 0} → Outcome W → Outcome W
counted r = record { after = r.after; taken = r.taken + 1; stop = r.stop; whose = r.whose }

-- a stop leaves all; an effect takes place, and the rest follows
abbrev pub onward : {W : Type 0} → Answer Effect → W → (Effect → W) → (W → Outcome W) → Outcome W
onward (stops k) x take rest = outcome x 0 k
onward (gives e) x take rest = counted (rest (take e))

-- the order at seat k's pointer, and where its S begins
abbrev pub next_order : List ℕ → ℕ → Machine → Order
next_order d k x = order_at d (pointer_of k x.state)

abbrev pub next_address : List ℕ → ℕ → Machine → ℕ
next_address d k x = address_in (next_order d k x) (registers_of k x.state)

abbrev pub verdict_of : List ℕ → ProtectList → ℕ → Machine → Answer Effect
verdict_of d p k x = decided d p k x.state x.memory (length x.journal)

-- a step of seat k, given how it is decided
abbrev pub stepped_by : (Machine → Answer Effect) → ℕ → Machine → Outcome Machine
stepped_by verdict k x = onward (verdict x) x (λ e. committed k e x) (λ y. outcome y 0 0)

unfoldable pub stepped : List ℕ → ProtectList → ℕ → Machine → Outcome Machine
stepped d p k x = stepped_by (verdict_of d p k) k x
