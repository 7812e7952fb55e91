-- The calls of the machine before storage orders were indexed (document 02, Job 7): steps and runs by its decision of an order.
use Rattle.std.specs.Prelude.{ℕ, List}
use Rattle.protection.specs.Form.{ProtectList}
use Rattle.machine.specs.Back.{backed}
use Rattle.machine.specs.Machine.{Machine}
use Rattle.machine.specs.Run.{steps_by, admitted, entry_of}
use Rattle.machine.specs.Step.{Outcome, stepped_by}
use Rattle.machine.specs.Unindexed.{unindexed_verdict}
use Rattle.conditions.specs.Trail.{Call, step, run, back}

unfoldable pub unindexed_called : List ℕ → ProtectList → Call → Machine → Outcome Machine
unindexed_called d p (step k) x = stepped_by (unindexed_verdict d p k) k x
unindexed_called d p (run k n) x = admitted (entry_of d p k x) x (steps_by (unindexed_verdict d p k) k n x)
unindexed_called d p back x = backed p x
