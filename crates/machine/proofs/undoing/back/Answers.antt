-- `machine::undoing::back` meets its contract: a refusal leaves all; else what the record says is put back into its seat.
-- Assumes nothing.
use Rattle.std.proofs.Common.{sym, ap, ◌∙◌, arith}
use Rattle.machine.specs.Back.{backed}
use Rattle.machine.specs.Says.{says}
use Rattle.machine.proofs.Checks.{held}
use Rattle.machine.proofs.Returning.{returning_gives}
use Rattle.machine.proofs.undoing.back.Goals as goal

pub overflow_sub-used : goal.overflow_sub-used
overflow_sub-used c =
    let granted = returning_gives _ _ _ _ _ (sym c.recall-v.ensures ∙ ap says c.in-Ok.is) in
    granted.used

pub read_record-requires : goal.read_record-requires
read_record-requires c =
    let granted = returning_gives _ _ _ _ _ (sym c.recall-v.ensures ∙ ap says c.in-Ok.is) in
    omega (arith, granted.used, (held _ _ _ _ _ _ granted.held).room)

pub store-requires : goal.store-requires
store-requires c =
    let granted = returning_gives _ _ _ _ _ (sym c.recall-v.ensures ∙ ap says c.in-Ok.is) in
    granted.there

pub registers_after-own-requires : goal.registers_after-own-requires
registers_after-own-requires c =
    let granted = returning_gives _ _ _ _ _ (sym c.recall-v.ensures ∙ ap says c.in-Ok.is) in
    (granted.registers, granted.selector)

pub returns-in-Err : goal.returns-in-Err
unfolding backed
returns-in-Err c = rw (← c.recall-v.ensures, c.in-Err.is)

pub returns-in-Ok : goal.returns-in-Ok
unfolding backed
returns-in-Ok c =
    rw (
      ← c.recall-v.ensures,
      c.in-Ok.is,
      ← c.read_record.ensures,
      ← c.seat_in-seat.ensures,
      ← c.registers_of.ensures,
      ← c.registers_after-own.ensures,
      ← c.other_of-other.ensures,
      ← c.seat_down-state.ensures,
      c.store.ensures,
    )
