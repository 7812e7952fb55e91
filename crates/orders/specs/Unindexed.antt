-- Check 5 as it was before storage orders were indexed (document 02, Job 7): r2 was a cell not named for an order with a storage operand, and so 0.
use Rattle.std.specs.Prelude.{ℕ, ◌≡◌}
use Rattle.hexfloat.specs.Answer.{Answer, gives, mapped, provided, and_then}
use Rattle.orders.specs.declared.order.Order.{Order}
use Rattle.orders.specs.declared.order.Operation.{Operation}
use Rattle.orders.specs.declared.order.Place.{Place}
use Rattle.orders.specs.Order.{row, operation_of, within_limits}

-- the largest r2 of a row, by where its second operand is
abbrev pub unindexed_limit : Place → ℕ → ℕ
unindexed_limit Place.Nowhere r = r
unindexed_limit Place.FloatRegister r = r
unindexed_limit Place.GeneralRegister r = r
unindexed_limit Place.Storage r = 0

abbrev pub unindexed_row : Operation → Operation
unindexed_row op = row op.verb op.width op.place op.r1 (unindexed_limit op.place op.r2) op.at

-- the row of a code, and check 5
abbrev pub unindexed_operation : ℕ → Answer Operation
unindexed_operation n = mapped unindexed_row (operation_of n)

unfoldable pub unindexed_legal : Order → Answer Operation
unindexed_legal o = and_then (unindexed_operation o.code) (λ op. provided (within_limits op o) 5 (gives op))

-- no index register is named: where the second operand is S, r2 is 0
abbrev pub NoIndex : Order → Type 0
NoIndex o = (op : Operation) → operation_of o.code ≡ gives op → op.place ≡ Place.Storage → o.r2 ≡ 0
