-- `cause::finding::access` meets its contract: the checks in turn, by the laws of what is answered.
-- Assumes nothing.
use Prim.Native.Nat.{◌<◌}
use mathlib.Core.Path.{sym, ap, ◌∙◌}
use native.Mathlib.Omega.{arith}
use borrow.Author.Rules.{rules}
use Rattle.protection.specs.Bits.{bitwise}
use Rattle.machine.specs.Fetch.{says_fetched}
use Rattle.machine.specs.Operand.{address_in}
use Rattle.orders.proofs.Addresses.{address_below}
use Rattle.machine.proofs.Rows.{legal_passed}
use Rattle.cause.proofs.Explained.{unread, explain_absent, explain_protected, explain_taken, explain_words}
use Rattle.cause.proofs.finding.access.Goals as goal
use Rattle.cause.proofs.finding.access.Goals.{Start}

-- by what the cell's type says
small : (c : Start) → address_in c.args.l.order c.args.registers < 131071
small c = address_below c.args.l.order c.args.registers.general c.args.registers.status.selector (search rules)

pub lowest_absent-absent-requires : goal.lowest_absent-absent-requires
lowest_absent-absent-requires c =
    let below = small (goal.at.lowest_absent-absent-requires c).Start in
    omega (arith, c.address-at.ensures, c.span.ensures, (legal_passed _ _ c.args.l.legal).span)

pub returns-in_default : goal.returns-in_default
returns-in_default c =
    let x = c in
    let absent = unread x.args.l.operation x.args.l.order x.args.registers x.args.memory.now _ x.args.l.legal c.fetch.result c.in_default.not-Ok c.fetch.ensures in
    rw (c.stopped.ensures, c.lowest_absent-absent.ensures, c.span.ensures, c.address-at.ensures) (sym (explain_absent x.args.l.operation x.args.l.order x.args.registers (bitwise x.args.protect.now) x.args.memory.now x.args.l.legal x.requires absent))

pub lowest_protected-a-requires : goal.lowest_protected-a-requires
lowest_protected-a-requires c =
    let below = small (goal.at.lowest_protected-a-requires c).Start in
    let w = legal_passed _ _ c.args.l.legal in
    omega (arith, c.address-at.ensures, c.stored-n.ensures, w.stored, w.span)

pub overflow_add-at : goal.overflow_add-at
overflow_add-at c =
    let below = small (goal.at.overflow_add-at c).Start in
    let w = legal_passed _ _ c.args.l.legal in
    omega (arith, c.address-at.ensures, c.stored-n.ensures, w.stored, w.span)

pub returns-then-a-at : goal.returns-then-a-at
returns-then-a-at c =
    let x = c in
    let e = sym (ap says_fetched c.in-Ok.is) ∙ c.fetch.ensures in
    let low = rw (c.lowest_protected-a.ensures, c.stored-n.ensures, c.address-at.ensures) at c.if-a-at.true in
    rw (c.stopped-then-a-at.ensures, c.lowest_protected-a.ensures, c.stored-n.ensures, c.address-at.ensures) (sym (explain_protected x.args.l.operation x.args.l.order x.args.registers (bitwise x.args.protect.now) x.args.memory.now x.args.l.legal x.requires _ e low))

pub returns-then-number-eq0 : goal.returns-then-number-eq0
returns-then-number-eq0 c =
    let x = c in
    let e = sym (ap says_fetched c.in-Ok.is) ∙ c.fetch.ensures in
    let free = rw (c.lowest_protected-a.ensures, c.stored-n.ensures, c.address-at.ensures) at c.if-a-at.false in
    let number = c.number.ensures ∙ c.attempt-stop.ensures in
    c.no_cause.ensures ∙ sym (explain_taken x.args.l.operation x.args.l.order x.args.registers (bitwise x.args.protect.now) x.args.memory.now x.args.l.legal x.requires _ e free (sym number ∙ c.if-number-eq0.true))

pub returns : goal.returns
returns c =
    let x = c in
    let e = sym (ap says_fetched c.in-Ok.is) ∙ c.fetch.ensures in
    let free = rw (c.lowest_protected-a.ensures, c.stored-n.ensures, c.address-at.ensures) at c.if-a-at.false in
    let number = c.number.ensures ∙ c.attempt-stop.ensures in
    rw (c.stopped-2.ensures, c.attempt-stop.ensures, c.words_read.ensures) (sym (explain_words x.args.l.operation x.args.l.order x.args.registers (bitwise x.args.protect.now) x.args.memory.now x.args.l.legal x.requires _ e free (rw (← number) (search rules))))
