-- `machine::decide::decide` meets its contract: the checks in turn.
-- Assumes nothing.
use Rattle.std.proofs.Common.{arith, le-ltb, lt-ltb, eq-eqb}
use Rattle.machine.proofs.Checks.{entered}
use Rattle.machine.proofs.Passed.{passed, refused, handed}
use Rattle.machine.proofs.Seats.{decided_as}
use Rattle.machine.proofs.decide.decide.Goals as goal

pub returns-in_err-admit : goal.returns-in_err-admit
returns-in_err-admit c =
    λ o h. decided_as _ _ _ _ _ _ _ _ _ _ h (rw (handed _ _ c.from_residual.ensures.1) (refused _ _ c.admit.ensures c.in_err-admit.was))

pub returns-then-p-deck : goal.returns-then-p-deck
returns-then-p-deck c =
    let passes = eq-eqb _ 0 (passed _ c.admit.ensures c.in_ok-admit.was) in
    λ o h. decided_as _ _ _ _ _ _ _ _ _ _ h (rw (passes, le-ltb _ _ c.if-p-deck.true))

pub invariant_of-s : goal.invariant_of-s
invariant_of-s c =
    let e = entered _ _ _ _ _ _ _ _ (passed _ c.admit.ensures c.in_ok-admit.was) in
    omega (arith, e.sized.size, c.if-p-deck.false)

pub returns-in_default : goal.returns-in_default
returns-in_default c =
    let passes = eq-eqb _ 0 (passed _ c.admit.ensures c.in_ok-admit.was) in
    λ o h. decided_as _ _ _ _ _ _ _ _ _ _ h
    (rw (
      passes,
      lt-ltb _ _ c.if-p-deck.false,
      ← c.order_at.ensures,
      ← c.legal.ensures.said,
      c.in_default.is,
    ))

pub returns : goal.returns
returns c =
    let passes = eq-eqb _ 0 (passed _ c.admit.ensures c.in_ok-admit.was) in
    λ o h. decided_as _ _ _ _ _ _ _ _ _ _ h
    (rw (
      passes,
      lt-ltb _ _ c.if-p-deck.false,
      ← c.order_at.ensures,
      ← c.in-Some.ensures.same,
      c.in-Some.l.legal,
    )
    c.judge.ensures)
