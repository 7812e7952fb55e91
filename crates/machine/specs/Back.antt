-- A back step (document 01, 'Journal and back steps'; checks 2, 3, 14, 15; document 02, Job 12).
use Rattle.std.specs.Prelude.{Option, Some, ℕ, ◌-◌, not, List, length, ◌==◌}
use Rattle.hexfloat.specs.Answer.{Answer, gives, stops, provided, checked, and_then}
use Rattle.protection.specs.Form.{ProtectList}
use Rattle.machine.specs.declared.state.State.{State}
use Rattle.machine.specs.declared.verdict.Effect.{Effect}
use Rattle.machine.specs.Change.{placed, guarded, memory_after}
use Rattle.machine.specs.Decide.{held_in}
use Rattle.machine.specs.Journal.{record_at, decoded, seat_in}
use Rattle.machine.specs.Machine.{Machine, machine, state_after}
use Rattle.machine.specs.Step.{Outcome, outcome}

-- no halfword absent or protected
unfoldable pub allowed : Effect → ProtectList → ℕ → Answer Effect
allowed e p memory = provided (placed e.change memory) 15 (provided (not (guarded p e.change)) 15 (gives e))

-- what record used - 1 puts back
unfoldable pub returning : ProtectList → State → ℕ → List ℕ → Answer Effect
returning p s memory j =
    checked (held_in p s memory (length j))
    (provided (not (s.used == 0)) 14
    (and_then (decoded (record_at j (s.used - 1))) (λ e. allowed e p memory)))

-- whose step that was
abbrev pub last_seat : State → List ℕ → ℕ
last_seat s j = seat_in (record_at j (s.used - 1))

-- a back step takes no step, and says whose step it took back
abbrev pub back_outcome : {W : Type 0} → W → ℕ → Option ℕ → Outcome W
back_outcome x n w = record { after = x; taken = 0; stop = n; whose = w }

abbrev pub undone : {W : Type 0} → W → ℕ → Outcome W
undone x k = back_outcome x 0 (Some k)

-- everything is put back into that seat, and the used count goes down by one; journal words stay
abbrev pub backed_by : Answer Effect → ℕ → Machine → Outcome Machine
backed_by (stops n) k x = outcome x 0 n
backed_by (gives e) k x =
    undone (machine (state_after k e (x.state.used - 1) x.state) (memory_after e.change x.memory) x.journal) k

unfoldable pub backed : ProtectList → Machine → Outcome Machine
backed p x = backed_by (returning p x.state (length x.memory) x.journal) (last_seat x.state x.journal) x
