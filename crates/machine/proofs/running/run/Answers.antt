-- `machine::running::run` meets its contract: checks 20 and 1 to 3, then the steps.
-- Assumes nothing.
use Rattle.std.proofs.Common.{refl, ◌∙◌, eq-eqb}
use Rattle.machine.specs.Run.{ran}
use Rattle.machine.proofs.Passed.{passed, failed}
use Rattle.machine.proofs.Seats.{steps_seated}
use Rattle.machine.proofs.running.run.Goals as goal

pub returns-in-Err : goal.returns-in-Err
unfolding ran
returns-in-Err c = let f = failed _ c.admit.ensures c.in-Err.is in rw (f.1, f.0)

pub returns : goal.returns
unfolding ran
returns c =
    let passes = eq-eqb _ 0 (passed _ c.admit.ensures c.in_default.is) in
    rw (c.assemble-state.ensures, c.status-status.ensures, passes)
    (c.advance-r.ensures c.other_of-other.result refl ∙ steps_seated _ _ _ _ _ _ _ _ c.registers_of-own.ensures c.other_of-other.ensures _)
