-- The state (document 01, 'The machine on the desk'; document 02, Job 12).
use Rattle.std.specs.Prelude.{replicate}
use Rattle.machine.specs.declared.state.Registers.{Registers}
use Rattle.machine.specs.declared.state.State.{State}
use Rattle.machine.specs.Status.{status}

abbrev pub fresh_registers : Registers
fresh_registers = record { float = replicate 8 0; general = replicate 16 0; status = status 0 0 0 0 }

-- a fresh state is all zero, of both seats
abbrev pub fresh_state : State
fresh_state = record { seat0 = fresh_registers; seat1 = fresh_registers; used = 0 }
