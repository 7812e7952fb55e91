-- `machine::undoing::recall` meets its contract: the checks in turn.
-- Assumes nothing.
use Rattle.std.proofs.Common.{arith, eq-eqb, ne_eqb}
use Rattle.machine.specs.Back.{returning}
use Rattle.machine.proofs.Checks.{held}
use Rattle.machine.proofs.Passed.{passed, refused, handed}
use Rattle.machine.proofs.undoing.recall.Goals as goal

pub returns-in_err-held : goal.returns-in_err-held
unfolding returning
returns-in_err-held c = rw (handed _ _ c.from_residual.ensures.1) (refused _ _ c.held.ensures c.in_err-held.was)

pub returns-then-used-eq0 : goal.returns-then-used-eq0
unfolding returning
returns-then-used-eq0 c = rw (eq-eqb _ 0 (passed _ c.held.ensures c.in_ok-held.was), eq-eqb _ 0 c.if-used-eq0.true)

pub read_record-requires : goal.read_record-requires
read_record-requires c =
    let h = held _ _ _ _ _ _ (passed _ c.held.ensures c.in_ok-held.was) in
    omega (arith, h.room, c.if-used-eq0.false)

pub returns-in_err-e : goal.returns-in_err-e
unfolding returning
returns-in_err-e c =
    rw (
      handed _ _ c.from_residual-in_err-e.ensures.1,
      eq-eqb _ 0 (passed _ c.held.ensures c.in_ok-held.was),
      ne_eqb _ 0 c.if-used-eq0.false,
      ← c.read_record.ensures,
      ← c.decode.ensures,
      c.in_err-e.was,
    )

pub returns : goal.returns
unfolding returning
returns c =
    rw (
      eq-eqb _ 0 (passed _ c.held.ensures c.in_ok-held.was),
      ne_eqb _ 0 c.if-used-eq0.false,
      ← c.read_record.ensures,
      ← c.decode.ensures,
      c.in_ok-e.was,
    )
    c.allow.ensures
