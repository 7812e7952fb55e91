-- Two seats at one panel (document 02, Job 12): each has registers of its own, and the used count is common. A seat is 0 or 1.
use Rattle.std.specs.Prelude.{◌≡◌, ℕ, cond, ◌==◌}
use Rattle.machine.specs.declared.state.Registers.{Registers}
use Rattle.machine.specs.declared.state.State.{State}
use Rattle.machine.specs.declared.state.Status.{Status}

-- the registers of seat k, and those of the other one
unfoldable pub registers_of : ℕ → State → Registers
registers_of k s = cond (k == 0) s.seat0 s.seat1

unfoldable pub other_of : ℕ → State → Registers
other_of k s = cond (k == 0) s.seat1 s.seat0

-- the state in which seat k has registers g and the other seat o
abbrev pub seated : ℕ → Registers → Registers → ℕ → State
seated k g o used = record { seat0 = cond (k == 0) g o; seat1 = cond (k == 0) o g; used = used }

-- whatever registers the other seat has, if its status is s
abbrev pub Beside : Status → (Registers → Type 0) → Type 0
Beside s P = (o : Registers) → o.status ≡ s → P o
