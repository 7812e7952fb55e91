-- State, memory and journal together, and what a taken step makes of them (document 01, 'Journal and back steps'; document 02, Job 12).
use Rattle.std.specs.Prelude.{◌≡◌, ℕ, ◌+◌, ◌*◌, ◌<◌, ◌≤◌, true, List}
use Rattle.machine.specs.declared.state.Registers.{Registers}
use Rattle.machine.specs.declared.state.State.{State}
use Rattle.machine.specs.declared.state.Status.{Status}
use Rattle.machine.specs.declared.verdict.Effect.{Effect}
use Rattle.machine.specs.Change.{old_of, memory_after, registers_after, registered, placed}
use Rattle.machine.specs.Journal.{encoded, written}
use Rattle.machine.specs.Seats.{registers_of, other_of, seated}
use Rattle.machine.specs.Status.{Packable}

pub record Machine : Type 0 where
  pub state : State
  pub memory : List ℕ
  pub journal : List ℕ

abbrev pub machine : State → List ℕ → List ℕ → Machine
machine s m j = record { state = s; memory = m; journal = j }

abbrev pub registers : List ℕ → List ℕ → Status → Registers
registers f n s = record { float = f; general = n; status = s }

-- the registers and the status of seat k apart, those of the other seat being o
abbrev pub machine_of : ℕ → List ℕ → List ℕ → Status → Registers → ℕ → List ℕ → List ℕ → Machine
machine_of k f n s o used m j = machine (seated k (registers f n s) o used) m j

-- an effect on seat k; the other seat stays
abbrev pub state_after : ℕ → Effect → ℕ → State → State
state_after k e used s = seated k (registers_after e (registers_of k s)) (other_of k s) used

-- what a step overwrites, with the status from before it
abbrev pub before_of : Registers → List ℕ → Effect → Effect
before_of g m e = record { change = old_of g m e.change; status = g.status }

-- the effect of a step of seat k takes place, its record is written at the used count and nowhere else, and the used count goes up by one
abbrev pub committed : ℕ → Effect → Machine → Machine
committed k e x =
    machine
    (state_after k e (x.state.used + 1) x.state)
    (memory_after e.change x.memory)
    (written x.journal x.state.used (encoded k (before_of (registers_of k x.state) x.memory e)))

-- what the checks leave known where an effect is committed
pub record Committable (k : ℕ) (e : Effect) (s : Status) (used memory journal : ℕ) : Type 0 where
  pub seat : k ≤ 1
  pub register : registered e.change ≡ true
  pub there : placed e.change memory ≡ true
  pub room : used * 4 + 4 ≤ journal
  pub count : used < 4096
  pub status : Packable s
  pub selector : e.status.selector ≤ 1
