-- A call by its two bytes, as the lists of calls name them.
use Rattle.std.specs.Prelude.{None, ℕ, zero, suc, ◌+◌, ◌*◌, ◌-◌, cond, List, get_or, eqb, ltb}
use Rattle.protection.specs.Form.{ProtectList}
use Rattle.machine.specs.declared.state.State.{State}
use Rattle.machine.specs.declared.stop.Stop.{Stop}
use Rattle.machine.specs.Back.{backed}
use Rattle.machine.specs.Machine.{Machine, machine}
use Rattle.machine.specs.Run.{ran}
use Rattle.machine.specs.Step.{Outcome, stepped}
use Rattle.machine.specs.Stops.{number_of}
use Rattle.trial.specs.declared.calling.Called.{Called}

-- a digit is its value; any other byte stands for the largest number
abbrev pub value_of : ℕ → ℕ
value_of b = cond (ltb b 48) 4294967295 (cond (ltb 57 b) 4294967295 (b - 48))

-- what a call answered, over the memory and journal that it left; of one that took no step back
abbrev pub answered : Called → List ℕ → List ℕ → Outcome Machine
answered r m j = record { after = machine r.state m j; taken = r.count; stop = number_of r.stop; whose = r.whose }

abbrev pub forward_called : State → ℕ → Stop → Called
forward_called s n k = record { state = s; count = n; stop = k; whose = None }

-- the seat's byte, then `s` a step, `b` a back step, which no seat is given, anything else a run
unfoldable pub called : ℕ → ℕ → List ℕ → ProtectList → Machine → Outcome Machine
called k b d p x = cond (eqb b 115) (stepped d p (value_of k) x) (cond (eqb b 98) (backed p x) (ran d p (value_of k) (value_of b) x))

-- call n of a list, from 0
abbrev pub call_of : List ℕ → ℕ → List ℕ → ProtectList → Machine → Outcome Machine
call_of cs n d p x = called (get_or cs (2 * n) 0) (get_or cs (2 * n + 1) 0) d p x

-- what stands after the first n
unfoldable pub after_calls : List ℕ → List ℕ → ProtectList → ℕ → Machine → Machine
after_calls cs d p zero x = x
after_calls cs d p (suc n) x = (call_of cs n d p (after_calls cs d p n x)).after
