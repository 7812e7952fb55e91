-- `machine::stepping::step_seat` meets its contract: at most one step is a step.
-- Assumes nothing.
use Rattle.machine.proofs.Runs.{one_step}
use Rattle.machine.proofs.stepping.step_seat.Goals as goal

pub returns : goal.returns
returns c = λ o h. rw c.status-status.ensures (one_step _ _ _ _ _ _ _ (c.advance-r.ensures o h))
