use Rattle.protection.specs.Bits.{bitwise}
use Rattle.machine.specs.Machine.{machine_of}
use Rattle.machine.specs.Seats.{Beside}
use Rattle.machine.proofs.Runs.{Under}
use Rattle.machine.proofs.advance.advance.Given as goal

abbrev pub invariant-loop-count : goal.invariant-loop-count
invariant-loop-count l =
    Beside l.other (λ o. Under l.deck (bitwise l.protect) l.seat l.limit (machine_of l.seat l.initial.float l.initial.general l.initial.now o l.initial.used l.initial.memory l.initial.journal) (machine_of l.seat l.float l.general l.now o l.used l.memory l.journal) l.count)
