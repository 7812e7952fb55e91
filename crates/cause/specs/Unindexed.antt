-- Why the next step was stopped before storage orders were indexed (document 02, Job 7): by that machine's number, the limits of its table, and S at `at`.
use Rattle.std.specs.Prelude.{ℕ, List, cond, eqb}
use Rattle.orders.specs.declared.order.Order.{Order}
use Rattle.orders.specs.Unindexed.{unindexed_operation}
use Rattle.protection.specs.Form.{ProtectList}
use Rattle.machine.specs.declared.state.Registers.{Registers}
use Rattle.machine.specs.Machine.{Machine}
use Rattle.machine.specs.Seats.{registers_of}
use Rattle.machine.specs.Unindexed.{unindexed_verdict}
use Rattle.machine.specs.Step.{next_order}
use Rattle.cause.specs.declared.naming.Cause.{Cause}
use Rattle.cause.specs.declared.naming.Named.{Named}
use Rattle.cause.specs.Arithmetic.{stop_in}
use Rattle.cause.specs.Cause.{cause, cause_number, named_for}
use Rattle.cause.specs.Cell.{first_cell, breaks_row}

unfoldable pub unindexed_named : ℕ → Order → Registers → List ℕ → ProtectList → Named
unindexed_named k o g m p = cond (eqb k 5) (Named.Cell (first_cell (breaks_row (unindexed_operation o.code) o))) (named_for k o g m o.at p)

abbrev pub unindexed_explained : ℕ → Order → Registers → List ℕ → ProtectList → Cause
unindexed_explained k o g m p = cause (cause_number k) (unindexed_named k o g m p)

unfoldable pub unindexed_why : List ℕ → ProtectList → ℕ → Machine → Cause
unindexed_why d p k x = unindexed_explained (stop_in (unindexed_verdict d p k x)) (next_order d k x) (registers_of k x.state) x.memory p
