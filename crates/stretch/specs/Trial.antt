-- Trials (document 02, Job 13): runs from the same state and memory with only the seat's pointer moved.
use Rattle.std.specs.Prelude.{ℕ, ◌+◌, ◌≤◌, ◌≡◌, List}
use Rattle.protection.specs.Form.{ProtectList}
use Rattle.machine.specs.declared.state.Registers.{Registers}
use Rattle.machine.specs.declared.state.State.{State}
use Rattle.machine.specs.Decide.{pointer_of}
use Rattle.machine.specs.Machine.{Machine, machine, registers}
use Rattle.machine.specs.Run.{ran}
use Rattle.machine.specs.Seats.{registers_of, other_of, seated}
use Rattle.machine.specs.Status.{status}
use Rattle.machine.specs.Step.{Outcome}

-- the registers of a seat with its pointer at order f
abbrev pub pointing : ℕ → Registers → Registers
pointing f g = registers g.float g.general (status g.status.condition g.status.mask f g.status.selector)

-- a state, and what stands with it, with seat k's pointer there
unfoldable pub pointed : ℕ → ℕ → State → State
pointed k f s = seated k (pointing f (registers_of k s)) (other_of k s) s.used

abbrev pub start_at : ℕ → ℕ → Machine → Machine
start_at k f x = machine (pointed k f x.state) x.memory x.journal

-- the run of seat k from order f to a stop: the limit is the largest that a run takes, and a deck without jumps does not reach it (Theorems, `ends`)
abbrev pub trial_from : List ℕ → ProtectList → ℕ → Machine → ℕ → Outcome Machine
trial_from d p k x f = ran d p k 4294967295 (start_at k f x)

-- f is no earlier than the pointer, and the run from there takes all orders before `last` and stops at that one by `stop`
pub record StopsFrom (d : List ℕ) (p : ProtectList) (k : ℕ) (x : Machine) (last stop f : ℕ) : Type 0 where
  pub begins : pointer_of k x.state ≤ f
  pub takes : f + (trial_from d p k x f).taken ≡ last
  pub there : pointer_of k (trial_from d p k x f).after.state ≡ last
  pub stops : (trial_from d p k x f).stop ≡ stop
