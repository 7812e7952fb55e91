-- What is named is a true cause (document 02, Job 5), for every deck d, protect list p in any form, seat k and machine x. The proofs are in
-- proofs/Theorems.antt.
use Rattle.std.specs.Prelude.{ℕ, ◌<◌, ◌≤◌, ◌≡◌, List, Bool, length}
use Rattle.hexfloat.specs.Answer.{gives}
use Rattle.orders.specs.declared.order.Operation.{Operation}
use Rattle.orders.specs.declared.order.Order.{Order}
use Rattle.orders.specs.Order.{legal_of, span_of, stored_of}
use Rattle.orders.specs.Unindexed.{NoIndex}
use Rattle.protection.specs.Form.{ProtectList, is_protected}
use Rattle.protection.specs.Theorems.{Alike}
use Rattle.machine.specs.declared.state.Registers.{Registers}
use Rattle.machine.specs.Effect.{effect_of}
use Rattle.machine.specs.Machine.{Machine}
use Rattle.machine.specs.Operand.{float_operand, second_operand}
use Rattle.machine.specs.Seats.{registers_of}
use Rattle.machine.specs.Step.{next_order, next_address, stepped}
use Rattle.cause.specs.declared.cell.Cell.{Cell}
use Rattle.cause.specs.declared.naming.Cause.{Cause}
use Rattle.cause.specs.declared.naming.Named.{Named}
use Rattle.cause.specs.Arithmetic.{stop_in, stop_by}
use Rattle.cause.specs.Cause.{values_of, cause_number, why_of}
use Rattle.cause.specs.Cell.{breaks, IsFirstCell}
use Rattle.cause.specs.Storage.{IsLowest, is_absent}
use Rattle.cause.specs.Unindexed.{unindexed_why}
use Rattle.cause.specs.Words.{arithmetic_operands, words_named}

-- a cell is named, the first that breaks check 5
pub record NamesCell (o : Order) (n : Named) : Type 0 where
  pub cell : Cell
  pub named : n ≡ Named.Cell cell
  pub first : IsFirstCell (breaks o) cell

-- an address is named, the lowest that a check refuses among the halfwords of S, from a on, that it looks at
pub record NamesAddress (refuses : ℕ → Bool) (halfwords : Operation → ℕ) (o : Order) (a : ℕ) (n : Named) : Type 0 where
  pub operation : Operation
  pub legal : legal_of o ≡ gives operation
  pub address : ℕ
  pub named : n ≡ Named.Address address
  pub lowest : IsLowest refuses a (halfwords operation) address

-- the number is the step's where that is 20 or 1 to 11, else 18, and 20 exactly for a seat above 1 (document 02, Job 12); what stands beside it is a cause of
-- it; and beside 20, 1 to 4 and 18 there is nothing
pub record TrueCause (d : List ℕ) (p : ProtectList) (k : ℕ) (x : Machine) (w : Cause) : Type 0 where
  pub number : w.number ≡ cause_number (stepped d p k x).stop
  pub listed : k ≤ 1 → (w.number ≡ 18 → ⊥) → (1 ≤ w.number) × (w.number ≤ 11)
  pub seat : 1 < k → w.number ≡ 20
  pub nothing : (5 ≤ w.number → w.number ≤ 11 → ⊥) → w.named ≡ Named.Nothing
  pub cell : w.number ≡ 5 → NamesCell (next_order d k x) w.named
  pub absent : w.number ≡ 6 → NamesAddress (is_absent (length x.memory)) span_of (next_order d k x) (next_address d k x) w.named
  pub protected : w.number ≡ 7 → NamesAddress (is_protected p) stored_of (next_order d k x) (next_address d k x) w.named
  pub words : 8 ≤ w.number → w.number ≤ 11 → stop_by (next_order d k x) (registers_of k x.state).status.mask (values_of w.named) ≡ w.number

-- the words that a legal order's arithmetic reads in a machine with these registers and this memory, where S is at a
abbrev pub words_in : Operation → Order → Registers → List ℕ → ℕ → List ℕ
words_in op o g m a =
    values_of (words_named (arithmetic_operands op.verb) op.width (float_operand op.width g.float o.r1) (second_operand op.place op.width o g.float g.general g.status.selector m a))

-- what the arithmetic of a legal order answers in one machine, it answers in any other that agrees with it on the words and the mask
abbrev pub SameStop : Operation → Order → Type 0
SameStop op o =
    (g h : Registers) (m n : List ℕ) (a b : ℕ) → words_in op o g m a ≡ words_in op o h n b → g.status.mask ≡ h.status.mask → stop_in (effect_of op o g m a) ≡ stop_in (effect_of op o h n b)

pub record Theorems : Type 0 where
  pub true_cause : (d : List ℕ) (p : ProtectList) (k : ℕ) (x : Machine) → TrueCause d p k x (why_of d p k x)
  pub same_stop : (op : Operation) (o : Order) → legal_of o ≡ gives op → SameStop op o
  -- over protect lists that say the same of memory's halfwords the answer is the same (document 02, Job 6)
  pub same_cause : (d : List ℕ) (p q : ProtectList) (k : ℕ) (x : Machine) → Alike (length x.memory) p q → why_of d p k x ≡ why_of d q k x
  -- where r2 is 0 in a next order with a storage operand, the answer is what it was before such orders were indexed (document 02, Job 7)
  pub unindexed : (d : List ℕ) (p : ProtectList) (k : ℕ) (x : Machine) → NoIndex (next_order d k x) → why_of d p k x ≡ unindexed_why d p k x
