-- A law for each kind of call.
use Rattle.std.proofs.Common.{rules}
use Rattle.trial.proofs.Calls.{called_step, called_back, called_run}
use Rattle.trial.proofs.calling.call.Goals as goal

pub returns-in-115 : goal.returns-in-115
returns-in-115 c =
    rw c.forward.ensures (called_step _ _ _ _ _ c.in-115.is c.value_of-k.ensures (rw (← c.number.ensures) search rules) c.step-r.ensures)

pub returns-in-98 : goal.returns-in-98
returns-in-98 c = called_back _ _ _ _ _ (search rules) c.in-98.is c.back-r.ensures

pub returns-in_default : goal.returns-in_default
returns-in_default c =
    rw c.forward-in_default.ensures (called_run _ _ _ _ _ (search rules) (search rules) c.value_of-k.ensures c.value_of.ensures c.run-r.ensures)
