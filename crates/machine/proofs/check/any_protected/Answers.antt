-- `machine::check::any_protected` meets its contract: the invariant: what is left to look at decides.
-- Assumes nothing.
use Rattle.std.proofs.Common.{sym, ◌∙◌}
use Rattle.machine.specs.Check.{any_protected}
use Rattle.machine.proofs.Protects.{any_more, any_none}
use Rattle.machine.proofs.check.any_protected.Goals as goal

pub returns-then-is_protected : goal.returns-then-is_protected
returns-then-is_protected c =
    rw (
      c.loop-a.invariant,
      any_more _ _ _ c.loop-a-test.true,
      ← c.is_protected.ensures,
      c.if-is_protected.true,
    )

pub loop-a-preserved : goal.loop-a-preserved
loop-a-preserved c = rw (c.loop-a.invariant, any_more _ _ _ c.loop-a-test.true, ← c.is_protected.ensures, c.if-is_protected.false)

pub returns : goal.returns
returns c = sym (c.loop-a.invariant ∙ any_none _ _ _ c.loop-a-test.false)
