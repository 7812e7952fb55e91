-- `machine::stepping::step` meets its contract: a step of the seat, beside the other.
-- Assumes nothing.
use Rattle.std.proofs.Common.{refl, ◌∙◌}
use Rattle.machine.proofs.Seats.{stepped_seated}
use Rattle.machine.proofs.stepping.step.Goals as goal

pub returns : goal.returns
returns c =
    rw c.seat_down-state.ensures
    (c.step_seat-r.ensures c.other_of-other.result refl ∙ stepped_seated _ _ _ _ _ _ _ _ c.registers_of-own.ensures c.other_of-other.ensures)
