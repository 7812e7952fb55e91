-- What holds of each row of the table of orders, by a test that is computed over the rows.
use Rattle.orders.specs.declared.legal_order.LegalOrder.{LegalOrder}
use Rattle.std.proofs.Common.{◌≡◌, ℕ, ◌≤◌, Bool, true, ◌&&◌, leb, refl, arith, leb-true}
use Rattle.hexfloat.specs.Answer.{gives}
use Rattle.orders.specs.declared.order.Operation.{Operation}
use Rattle.orders.specs.declared.order.Order.{Order}
use Rattle.orders.specs.declared.order.Verb.{Verb}
use Rattle.orders.specs.Order.{rows, within_limits, legal_of, span_of, stored_of}
use Rattle.hexfloat.proofs.Answers.{both}
use Rattle.orders.proofs.Passing.{legal-row, within_limited}
use Rattle.orders.proofs.Table.{all_rows, row_passes}

-- UM and SET alone write r2 into the status: the mask, the selector
unfoldable pub bit_fits : Verb → ℕ → Bool
bit_fits Verb.Load r = true
bit_fits Verb.Complement r = true
bit_fits Verb.Compare r = true
bit_fits Verb.Fix r = true
bit_fits Verb.Float r = true
bit_fits Verb.Divide r = true
bit_fits Verb.Store r = true
bit_fits Verb.LoadGeneral r = true
bit_fits Verb.StoreGeneral r = true
bit_fits Verb.SetMask r = leb r 1
bit_fits Verb.Jump r = true
bit_fits Verb.CountDown r = true
bit_fits Verb.Halt r = true
bit_fits (Verb.Sum s) r = true
bit_fits Verb.Multiply r = true
bit_fits Verb.Select r = leb r 1

-- no register above 7; what is stored is a part of S, which has at most four halfwords; a mask or selector is 0 or 1
unfoldable fitting : ℕ → Operation → Bool
fitting code op = leb op.r1 7 && (leb op.r2 7 && (leb (stored_of op) (span_of op) && (leb (span_of op) 4 && bit_fits op.verb op.r2)))

rows_fit : all_rows fitting rows 1 ≡ true
unfolding all_rows fitting bit_fits
rows_fit = refl

-- of an operation that check 5 lets pass, with its order
pub record Passed (op : Operation) (o : Order) : Type 0 where
  pub r1 : o.r1 ≤ op.r1
  pub r2 : o.r2 ≤ op.r2
  pub first : o.r1 ≤ 7
  pub second : o.r2 ≤ 7
  pub stored : stored_of op ≤ span_of op
  pub span : span_of op ≤ 4
  pub bit : bit_fits op.verb op.r2 ≡ true

passed : (op : Operation) (o : Order) → fitting o.code op ≡ true → within_limits op o ≡ true → Passed op o
unfolding fitting
passed op o f w =
    let a = both (leb op.r1 7) (leb op.r2 7 && (leb (stored_of op) (span_of op) && (leb (span_of op) 4 && bit_fits op.verb op.r2))) f in
    let b = both (leb op.r2 7) (leb (stored_of op) (span_of op) && (leb (span_of op) 4 && bit_fits op.verb op.r2)) a.1 in
    let c = both (leb (stored_of op) (span_of op)) (leb (span_of op) 4 && bit_fits op.verb op.r2) b.1 in
    let d = both (leb (span_of op) 4) (bit_fits op.verb op.r2) c.1 in
    let cells = within_limited op o w in
    record {
      r1 = cells.r1;
      r2 = cells.r2;
      first = omega (arith, leb-true op.r1 7 a.0);
      second = omega (arith, leb-true op.r2 7 b.0);
      stored = leb-true (stored_of op) (span_of op) c.0;
      span = leb-true (span_of op) 4 d.0;
      bit = d.1;
    }

pub legal_passed : (o : Order) (op : Operation) → legal_of o ≡ gives op → Passed op o
legal_passed o op h = let q = legal-row o op h in passed op o (row_passes fitting rows_fit o.code op q.0) q.1

-- of an order that its type says is legal
pub first_register : (l : LegalOrder) → l.order.r1 ≤ 7
first_register l = (legal_passed l.order l.operation l.legal).first

pub second_register : (l : LegalOrder) → l.order.r2 ≤ 7
second_register l = (legal_passed l.order l.operation l.legal).second
