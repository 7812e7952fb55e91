-- `stretch::restoring::restore` meets its contract. The loop's invariant: the records that are left lead from here to where all of them lead from the
-- start. Assumes nothing.
use mathlib.Core.Path.{sym, ap, ◌∙◌}
use native.Mathlib.Omega.{arith}
use borrow.Author.Rules.{rules}
use Rattle.stretch.specs.Restore.{restored}
use Rattle.stretch.proofs.Restored.{restored_on, restored_none}
use Rattle.stretch.proofs.restoring.restore.Goals as goal

pub loop-i-preserved : goal.loop-i-preserved
loop-i-preserved c = (c.loop-i.invariant.0 ∙ restored_on _ _ _ _ c.loop-i-test.true ∙ ap (restored _ _ _) (sym c.put_record.ensures), search rules)

pub returns : goal.returns
returns c = sym (c.loop-i.invariant.0 ∙ restored_none _ _ _ _ (omega arith))
