-- What is answered of an order that names no index is what was answered before storage orders were indexed.
use Prim.Native.Nat.{ℕ, ◌<◌, ◌≤◌}
use mathlib.Core.Path.{◌≡◌, refl, ap, ◌∙◌}
use mathlib.Core.List.{List}
use mathlib.Core.Bool.{Bool, true, false, cond, ◌&&◌}
use lib.Dec.{eqb, leb, ltb}
use lib.ListN.{length}
use native.Mathlib.Omega.{arith}
use borrow.Author.Tests.{eqb-true, leb-true, le-ltb}
use Rattle.hexfloat.specs.Answer.{Answer, gives, stops, mapped, provided}
use Rattle.hexfloat.proofs.Answers.{both}
use Rattle.orders.specs.declared.order.Operation.{Operation}
use Rattle.orders.specs.declared.order.Order.{Order}
use Rattle.orders.specs.declared.order.Place.{Place}
use Rattle.orders.specs.Order.{operation_of, legal_of, span_as, span_of, stored_of}
use Rattle.orders.specs.Unindexed.{unindexed_limit, unindexed_row, unindexed_operation, NoIndex}
use Rattle.orders.proofs.Passing.{legal-row}
use Rattle.orders.proofs.Unindexed.{limit_same}
use Rattle.protection.specs.Form.{ProtectList}
use Rattle.machine.specs.declared.fetching.Operands.{Operands}
use Rattle.machine.specs.declared.state.Registers.{Registers}
use Rattle.machine.specs.declared.verdict.Effect.{Effect}
use Rattle.orders.specs.Address.{address_of}
use Rattle.machine.specs.Check.{present}
use Rattle.machine.specs.Fetch.{operands_read}
use Rattle.machine.specs.Machine.{Machine}
use Rattle.machine.specs.Operand.{float_operand, second_operand, address_in}
use Rattle.machine.specs.Seats.{registers_of}
use Rattle.machine.specs.Step.{next_order, next_address, verdict_of}
use Rattle.orders.proofs.Addresses.{address_plain}
use Rattle.machine.proofs.Rows.{legal_passed}
use Rattle.machine.proofs.Unindexed.{decided_unindexed}
use Rattle.cause.specs.declared.naming.Named.{Named}
use Rattle.cause.specs.Arithmetic.{stop_in}
use Rattle.cause.specs.Cause.{cause, cause_number, named_for, why_of}
use Rattle.cause.specs.Cell.{first_cell, breaks_row, breaks}
use Rattle.cause.specs.Storage.{lowest_absent, lowest_protected}
use Rattle.cause.specs.Unindexed.{unindexed_named, unindexed_explained, unindexed_why}
use Rattle.cause.specs.Words.{words_read}
use Rattle.cause.proofs.Lowest.{past_end, any_some}
use Rattle.cause.proofs.Reached.{stop_known, Known, decided_known}

module _ (o : Order) (none : NoIndex o) where
  -- a cell above the one limit is above the other
  above_same : (q : Place) (r limit : ℕ) → (q ≡ Place.Storage → r ≡ 0) → ltb (unindexed_limit q limit) r ≡ ltb limit r
  above_same q r limit h = limit_same (λ (l : ℕ). ltb l r) q limit (λ s. rw (le-ltb 0 r (omega (arith, h s)), le-ltb limit r (omega (arith, h s))))

  cells_unindexed : first_cell (breaks o) ≡ first_cell (breaks_row (unindexed_operation o.code) o)
  unfolding first_cell breaks_row
  cells_unindexed = cases (operation_of o.code) none
    where
      cases : (r : Answer Operation) → ((op : Operation) → r ≡ gives op → op.place ≡ Place.Storage → o.r2 ≡ 0) → first_cell (breaks_row r o) ≡ first_cell (breaks_row (mapped unindexed_row r) o)
      cases (gives op) h = rw (above_same op.place o.r2 op.r2 (h op refl))
      cases (stops k) h = refl

  module _ (n : List ℕ) (t : ℕ) (op : Operation) (legal : legal_of o ≡ gives op) where
    -- where it has a storage operand, that is at `at`
    there_unindexed : op.place ≡ Place.Storage → address_of o n t ≡ o.at
    there_unindexed s = address_plain o n t (none op (legal-row o op legal).0 s)

    span_unindexed : 0 < span_of op → address_of o n t ≡ o.at
    span_unindexed h = there_unindexed (cases op.place h)
      where
        cases : (q : Place) → 0 < span_as q op.width → q ≡ Place.Storage
        cases Place.Nowhere h = absurd (omega arith)
        cases Place.FloatRegister h = absurd (omega arith)
        cases Place.GeneralRegister h = absurd (omega arith)
        cases Place.Storage h = refl

    -- and what it reads is the same
    operands_unindexed : (f m : List ℕ) → operands_read o f n t m (address_of o n t) ≡ operands_read o f n t m o.at
    unfolding operands_read present second_operand
    operands_unindexed f m = rw (legal) (cases op.place there_unindexed)
      where
        reading : Place → ℕ → Answer Operands
        reading q a =
            provided (present (span_as q op.width) a (length m)) 6
            (gives (record { operation = op; first = float_operand op.width f o.r1; second = second_operand q op.width o f n t m a }))

        cases : (q : Place) → (q ≡ Place.Storage → address_of o n t ≡ o.at) → reading q (address_of o n t) ≡ reading q o.at
        cases Place.Nowhere h = refl
        cases Place.FloatRegister h = refl
        cases Place.GeneralRegister h = refl
        cases Place.Storage h = ap (reading Place.Storage) (h refl)

  module _ (g : Registers) (p : ProtectList) (m : List ℕ) where
    abbrev a : ℕ
    a = address_in o g

    named_unindexed : (k : ℕ) → (1 ≤ k → Known o g p m a k) → named_for k o g m a p ≡ unindexed_named k o g m p
    unfolding named_for unindexed_named
    named_unindexed k known = cases (eqb k 5) (eqb k 6) (eqb k 7) (leb 8 k && leb k 11) refl refl refl
      where
        -- 6, 7 and the others, by S
        other : Bool → Bool → Bool → ℕ → Named
        other y z w s =
            cond y (Named.Address (lowest_absent o s (length m)))
            (cond z (Named.Address (lowest_protected o s p))
            (cond w (words_read (operands_read o g.float g.general g.status.selector m s))
            Named.Nothing))

        rest : (y z w : Bool) → eqb k 6 ≡ y → eqb k 7 ≡ z → (leb 8 k && leb k 11) ≡ w → other y z w a ≡ other y z w o.at
        rest true z w e f h =
            let q = (known (omega (arith, eqb-true k 6 e))).absent (eqb-true k 6 e) in
            ap (other true z w) (span_unindexed g.general g.status.selector q.0 q.1 (past_end (span_of q.0) a (length m) q.2).0)
        rest false true w e f h =
            let q = (known (omega (arith, eqb-true k 7 f))).protected (eqb-true k 7 f) in
            let some = any_some p a (stored_of q.0) q.3 in
            ap (other false true w) (span_unindexed g.general g.status.selector q.0 q.1 (omega (arith, some, (legal_passed o q.0 q.1).stored)))
        rest false false true e f h =
            let b = both (leb 8 k) (leb k 11) h in
            let low = leb-true 8 k b.0 in
            let q = (known (omega arith)).arithmetic low (leb-true k 11 b.1) in
            ap words_read (operands_unindexed g.general g.status.selector q.0 q.1 g.float m)
        rest false false false e f h = refl

        cases :
            (x y z w : Bool) → eqb k 6 ≡ y → eqb k 7 ≡ z → (leb 8 k && leb k 11) ≡ w →
            cond x (Named.Cell (first_cell (breaks o))) (other y z w a)
            ≡ cond x (Named.Cell (first_cell (breaks_row (unindexed_operation o.code) o))) (cond x (Named.Cell (first_cell (breaks o))) (other y z w o.at))
        cases true y z w e f h = ap Named.Cell cells_unindexed
        cases false y z w e f h = rest y z w e f h

pub unindexed : (d : List ℕ) (p : ProtectList) (k : ℕ) (x : Machine) → NoIndex (next_order d k x) → why_of d p k x ≡ unindexed_why d p k x
unfolding why_of unindexed_why
unindexed d p k x none =
    let g = registers_of k x.state in
    let o = next_order d k x in
    let v = verdict_of d p k x in
    ap (cause (cause_number (stop_in v))) (named_unindexed o none g p x.memory (stop_in v) (stop_known (Known o g p x.memory (next_address d k x)) v (decided_known d p k x.state x.memory (length x.journal))))
    ∙ ap (λ (y : Answer Effect). unindexed_explained (stop_in y) o g x.memory p) (decided_unindexed d p k x.state x.memory (length x.journal) (λ l. none))
