-- `panel::panel_step` meets its contract: both times that the code asks which seat it is, it is told the same, and the step is that of the state in which
-- the other seat has the registers that it has.
use mathlib.Core.Path.{sym}
use borrow.Author.Tests.{eq-eqb, ne_eqb}
use Rattle.machine.specs.declared.state.State.{State}
use Rattle.panel.proofs.panel_step.Goals as goal
use Rattle.panel.proofs.panel_step.Goals.{then-seat-eq0, else-seat-eq0, then-seat-eq0-2, else-seat-eq0-2}

pub returns : goal.returns
returns c =
    let s : State = c.args.state.now in
    let told = c.step_seat-stepped.ensures in
    elim c.if-seat-eq0.branch [
      | then-seat-eq0 w ↦
          elim c.if-seat-eq0-2.branch [
            | then-seat-eq0-2 v ↦ rw (v.state-is, c.number.ensures) (rw (w.own-is, eq-eqb _ _ w.if-seat-eq0.true) at (told s.seat1 (sym w.other-is)))
            | else-seat-eq0-2 v ↦ absurd (v.if-seat-eq0-2.false w.if-seat-eq0.true)
          ]
      | else-seat-eq0 w ↦
          elim c.if-seat-eq0-2.branch [
            | then-seat-eq0-2 v ↦ absurd (w.if-seat-eq0.false v.if-seat-eq0-2.true)
            | else-seat-eq0-2 v ↦ rw (v.state-is, c.number.ensures) (rw (w.own-is, ne_eqb _ _ w.if-seat-eq0.false) at (told s.seat0 (sym w.other-is)))
          ]
    ]
