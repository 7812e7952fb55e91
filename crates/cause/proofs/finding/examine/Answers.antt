-- `cause::finding::examine` meets its contract: the checks in turn.
-- Assumes nothing.
use Prim.Native.Nat.{◌/◌}
use native.Mathlib.Omega.{arith}
use borrow.Author.Tests.{lt-ltb, le-ltb}
use Rattle.machine.specs.Decide.{judged}
use Rattle.cause.specs.Cause.{cause_number, named_for}
use Rattle.cause.proofs.finding.examine.Goals as goal

pub returns-in_default : goal.returns-in_default
unfolding cause_number named_for
returns-in_default c = rw (c.stopped.ensures, c.first_broken.ensures, ← c.legal.ensures.said, c.in_default.is)

pub returns-then-halts : goal.returns-then-halts
unfolding judged cause_number named_for
returns-then-halts c = rw (c.no_cause.ensures, ← c.legal.ensures.said, c.in-Some.is, ← c.halts.ensures, c.if-halts.true)

pub returns-then-used-journal : goal.returns-then-used-journal
unfolding judged cause_number named_for
returns-then-used-journal c =
    let a = c.args in
    let full = le-ltb a.used (a.journal / 4) (omega (arith, c.if-used-journal.true)) in
    rw (c.no_cause-then-used-journal.ensures, ← c.legal.ensures.said, c.in-Some.is, ← c.halts.ensures, c.if-halts.false, full)

pub returns : goal.returns
unfolding judged
returns c =
    let a = c.args in
    let room = lt-ltb a.used (a.journal / 4) (omega (arith, c.if-used-journal.false)) in
    rw (← c.in-Some.ensures.same, c.in-Some.l.legal, ← c.halts.ensures, c.if-halts.false, room) c.access.ensures
