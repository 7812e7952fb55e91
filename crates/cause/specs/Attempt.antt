-- The machine on which an order is tried with nothing but the float registers, its second operand and the mask. For the private functions of this crate.
use Rattle.std.specs.Prelude.{ℕ, ◌/◌, ◌%◌, ◌≤◌, ◌≡◌, false, List, [], ◌∷◌, replicate}
use Rattle.hexfloat.specs.declared.word.Words.{Words}
use Rattle.orders.specs.declared.order.Operation.{Operation}
use Rattle.orders.specs.declared.order.Order.{Order}
use Rattle.orders.specs.Order.{is_halt}
use Rattle.protection.specs.Form.{ProtectList}
use Rattle.protection.specs.Bits.{bitwise}
use Rattle.machine.specs.declared.state.Registers.{Registers}
use Rattle.machine.specs.Machine.{Machine, machine, registers}
use Rattle.machine.specs.Seats.{seated}
use Rattle.machine.specs.Status.{status}

-- two words as storage has them
abbrev pub halfwords_of : Words → List ℕ
halfwords_of b = b.high / 65536 ∷ b.high % 65536 ∷ b.low / 65536 ∷ b.low % 65536 ∷ []

-- the order alone, its S at address 0: every general register is 0, and so is every index
abbrev pub attempt_deck : Order → List ℕ
attempt_deck o = o.code ∷ o.r1 ∷ o.r2 ∷ 0 ∷ []

-- nothing is protected
abbrev pub attempt_protect : ProtectList
attempt_protect = bitwise (replicate 1 0)

-- the registers of either seat: check 3 looks at both (document 02, Job 12)
abbrev pub attempt_registers : List ℕ → ℕ → Registers
attempt_registers f mask = registers f (replicate 16 0) (status 0 mask 0 0)

-- the second operand in storage, room for one record, and no step taken yet; seat 0 tries the order
abbrev pub attempt_machine : List ℕ → ℕ → Words → Machine
attempt_machine f mask b = machine (seated 0 (attempt_registers f mask) (attempt_registers f mask) 0) (halfwords_of b) (replicate 4 0)

-- what the checks leave known where an order's storage is looked at
pub record Accessible (op : Operation) (g : Registers) : Type 0 where
  pub goes : is_halt op.verb ≡ false
  pub mask : g.status.mask ≤ 1
