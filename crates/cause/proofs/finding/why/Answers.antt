-- `cause::finding::why` meets its contract: checks 20 and 1 to 4, and the order at the pointer.
-- Assumes nothing.
use mathlib.Core.Path.{sym, ◌∙◌}
use borrow.Author.Tests.{eq-eqb, eqb-false, lt-ltb, le-ltb}
use Rattle.machine.proofs.Checks.{held, entered}
use Rattle.machine.proofs.Passed.{passed, failed}
use Rattle.machine.proofs.Seats.{held_own}
use Rattle.cause.specs.Cause.{cause_number, named_for}
use Rattle.cause.proofs.Explained.{explain_early, why_as}
use Rattle.cause.proofs.finding.why.Goals as goal

pub returns-in-Err : goal.returns-in-Err
returns-in-Err c =
    let f = failed _ c.admit.ensures c.in-Err.is in
    why_as _ _ _ _ _ _ _ _ c.registers_of-registers.ensures
    (rw (c.alone.ensures, f.1, f.0) (sym (explain_early _ _ _ _ _ _ _ _ _ _ _ _ (eqb-false _ 0 f.0))))

pub returns-then-status-deck : goal.returns-then-status-deck
unfolding cause_number named_for
returns-then-status-deck c =
    let passes = eq-eqb _ 0 (passed _ c.admit.ensures c.in_default.is) in
    why_as _ _ _ _ _ _ _ _ c.registers_of-registers.ensures (rw (c.alone-then-status-deck.ensures, passes, le-ltb _ _ c.if-status-deck.true))

pub examine-requires : goal.examine-requires
examine-requires c =
    let zero = passed _ c.admit.ensures c.in_default.is in
    let passes = sym (held_own _ _ _ _ _) ∙ (entered _ _ _ _ _ _ _ _ zero).passes in
    rw c.registers_of-registers.ensures (held _ _ _ _ _ _ passes).own.mask

pub returns : goal.returns
returns c =
    let passes = eq-eqb _ 0 (passed _ c.admit.ensures c.in_default.is) in
    why_as _ _ _ _ _ _ _ _ c.registers_of-registers.ensures (rw (passes, lt-ltb _ _ c.if-status-deck.false, ← c.order_at-o.ensures) c.examine.ensures)
