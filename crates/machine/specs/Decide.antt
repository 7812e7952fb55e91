-- Every check of a step in the table's order, 20, 1, 2, 3, 4, 5, 12, 13, 6, 7 and then 8 to 11 with the effect (document 01, 'Causes and their numbers';
-- document 02, Job 12).
use Rattle.std.specs.Prelude.{ℕ, ◌/◌, cond, not, List, length, nat_le, nat_lt}
use Rattle.hexfloat.specs.Answer.{Answer, provided, checked, and_then}
use Rattle.orders.specs.declared.order.Operation.{Operation}
use Rattle.orders.specs.declared.order.Order.{Order}
use Rattle.protection.specs.Form.{ProtectList}
use Rattle.machine.specs.declared.state.Registers.{Registers}
use Rattle.machine.specs.declared.state.State.{State}
use Rattle.machine.specs.declared.state.Status.{Status}
use Rattle.machine.specs.declared.verdict.Effect.{Effect}
use Rattle.machine.specs.Check.{deck_sized, buffers_sized, state_formed, present, any_protected}
use Rattle.machine.specs.Effect.{effect_of}
use Rattle.machine.specs.Operand.{address_in}
use Rattle.machine.specs.Seats.{registers_of}
use Rattle.orders.specs.Order.{legal_of, span_of, stored_of, is_halt, order_at}

-- the first of 2 and 3 that the table gives for this protect list, these lengths, the statuses of both seats and this used count, or 0
unfoldable pub held_stop : ProtectList → Status → Status → ℕ → ℕ → ℕ → ℕ
held_stop p s other used memory journal = cond (buffers_sized p memory journal) (cond (state_formed s other used journal) 0 3) 2

-- the first of 20, 1, 2 and 3 for a call that is given seat k, or 0
unfoldable pub entry_stop : ℕ → ℕ → ProtectList → Status → Status → ℕ → ℕ → ℕ → ℕ
entry_stop k deck p s other used memory journal = cond (nat_le k 1) (cond (deck_sized deck) (held_stop p s other used memory journal) 1) 20

-- the same of a state
abbrev pub held_in : ProtectList → State → ℕ → ℕ → ℕ
held_in p s memory journal = held_stop p s.seat0.status s.seat1.status s.used memory journal

abbrev pub entry_in : ℕ → ℕ → ProtectList → State → ℕ → ℕ → ℕ
entry_in k deck p s memory journal = entry_stop k deck p s.seat0.status s.seat1.status s.used memory journal

-- checks 6 and 7 of a legal order whose S, if it has one, is at a, then its effect
abbrev pub accessed : Order → Registers → ProtectList → List ℕ → ℕ → Operation → Answer Effect
accessed o g p m a op =
    provided (present (span_of op) a (length m)) 6
    (provided (not (any_protected p a (stored_of op))) 7
    (effect_of op o g m a))

-- checks 12 and 13 before them
unfoldable pub judged : Order → Registers → ℕ → ProtectList → List ℕ → ℕ → ℕ → Operation → Answer Effect
judged o g used p m a journal op = provided (not (is_halt op.verb)) 12 (provided (nat_lt used (journal / 4)) 13 (accessed o g p m a op))

-- check 5 before them, and the address of S by the registers
abbrev pub judged_at : Order → Registers → ℕ → ProtectList → List ℕ → ℕ → Answer Effect
judged_at o g used p m journal = and_then (legal_of o) (judged o g used p m (address_in o g) journal)

-- where seat k's pointer is
abbrev pub pointer_of : ℕ → State → ℕ
pointer_of k s = (registers_of k s).status.pointer

-- checks 20 and 1 to 4, then what is decided of the order at the pointer; the journal enters by its length alone
abbrev pub reached : List ℕ → ProtectList → ℕ → State → List ℕ → ℕ → (Order → Answer Effect) → Answer Effect
reached d p k s m journal rest =
    checked (entry_in k (length d) p s (length m) journal)
    (provided (nat_lt (pointer_of k s) (length d / 4)) 4
    (rest (order_at d (pointer_of k s))))

-- a step of seat k
unfoldable pub decided : List ℕ → ProtectList → ℕ → State → List ℕ → ℕ → Answer Effect
decided d p k s m journal = reached d p k s m journal (λ o. judged_at o (registers_of k s) s.used p m journal)
