-- Seats that keep apart in memory (document 02, Job 12): which halfwords an order touches, by its code, cells and registers, and which the steps left standing did.
use Rattle.std.specs.Prelude.{ℕ, ◌+◌, ◌<◌, ◌≤◌, ◌≡◌, cond, eqb}
use mathlib.Core.List.{List, [], ◌∷◌, Memᴰ}
use Rattle.hexfloat.specs.Answer.{gives}
use Rattle.orders.specs.declared.order.Operation.{Operation}
use Rattle.orders.specs.Order.{legal_of, order_at, span_of, stored_of}
use Rattle.machine.specs.declared.state.State.{State}
use Rattle.machine.specs.Decide.{pointer_of}
use Rattle.machine.specs.Operand.{address_in}
use Rattle.machine.specs.Seats.{registers_of}
use Rattle.conditions.specs.Trail.{Earlier}

-- where the S of seat k's next order begins, if it has one
abbrev pub storage_at : List ℕ → ℕ → State → ℕ
storage_at d k s = address_in (order_at d (pointer_of k s)) (registers_of k s)

-- halfword a is one of those from there on, as many as `many` says of the order; an order that is not legal has none
pub record Reaches (many : Operation → ℕ) (d : List ℕ) (k : ℕ) (s : State) (a : ℕ) : Type 0 where
  pub operation : Operation
  pub legal : legal_of (order_at d (pointer_of k s)) ≡ gives operation
  pub from : storage_at d k s ≤ a
  pub below : a < storage_at d k s + many operation

-- seat k's next order loads the halfword or stores to it; and it stores to it, whether or not the value stays
abbrev pub Touches : List ℕ → ℕ → State → ℕ → Type 0
Touches d k s a = Reaches span_of d k s a

abbrev pub StoresTo : List ℕ → ℕ → State → ℕ → Type 0
StoresTo d k s a = Reaches stored_of d k s a

-- a step of seat k, among these that stand, did so
pub record Reached (many : Operation → ℕ) (d : List ℕ) (k : ℕ) (es : List Earlier) (a : ℕ) : Type 0 where
  pub step : Earlier
  pub stands : Memᴰ step es
  pub seat : step.seat ≡ k
  pub reaches : Reaches many d k step.entry.state a

-- no halfword that a step of seat k touched was stored to by a step of another seat
abbrev pub Apart : List ℕ → ℕ → List Earlier → Type 0
Apart d k es = (j a : ℕ) → (j ≡ k → ⊥) → Reached span_of d k es a → Reached stored_of d j es a → ⊥

-- how many of these steps are seat k's
unfoldable pub taken_by : ℕ → List Earlier → ℕ
taken_by k [] = 0
taken_by k (e ∷ es) = cond (eqb e.seat k) 1 0 + taken_by k es
