-- The machine before storage orders were indexed (document 02, Job 7): S was at `at`, and check 5 wanted r2 to be 0 there.
use Rattle.std.specs.Prelude.{ℕ, ◌/◌, ◌<◌, List, length}
use Rattle.hexfloat.specs.Answer.{Answer, and_then}
use Rattle.orders.specs.declared.order.Order.{Order}
use Rattle.orders.specs.Order.{order_at}
use Rattle.orders.specs.Unindexed.{unindexed_legal, NoIndex}
use Rattle.protection.specs.Form.{ProtectList}
use Rattle.machine.specs.declared.state.Registers.{Registers}
use Rattle.machine.specs.declared.state.State.{State}
use Rattle.machine.specs.declared.verdict.Effect.{Effect}
use Rattle.machine.specs.Decide.{judged, reached}
use Rattle.machine.specs.Machine.{Machine}
use Rattle.machine.specs.Seats.{registers_of}

abbrev pub unindexed_judged : Order → Registers → ℕ → ProtectList → List ℕ → ℕ → Answer Effect
unindexed_judged o g used p m journal = and_then (unindexed_legal o) (judged o g used p m o.at journal)

unfoldable pub unindexed_decided : List ℕ → ProtectList → ℕ → State → List ℕ → ℕ → Answer Effect
unindexed_decided d p k s m journal = reached d p k s m journal (λ o. unindexed_judged o (registers_of k s) s.used p m journal)

abbrev pub unindexed_verdict : List ℕ → ProtectList → ℕ → Machine → Answer Effect
unindexed_verdict d p k x = unindexed_decided d p k x.state x.memory (length x.journal)

-- no order of the deck names an index register
abbrev pub NoIndexIn : List ℕ → Type 0
NoIndexIn d = (i : ℕ) → i < length d / 4 → NoIndex (order_at d i)
