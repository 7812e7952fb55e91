-- What check 5 says of an order that passes it: the row of its code, and every cell within its limit.
use Prim.Native.Nat.{◌≤◌}
use mathlib.Core.Path.{◌≡◌, subst, ap, ◌∙◌}
use mathlib.Core.Bool.{true, ◌&&◌}
use lib.Dec.{leb}
use borrow.Author.Tests.{leb-true}
use Rattle.hexfloat.specs.Answer.{gives, provided}
use Rattle.hexfloat.proofs.Answers.{gives_inj, provided_gives, then_gives, both}
use Rattle.orders.specs.declared.order.Order.{Order}
use Rattle.orders.specs.declared.order.Operation.{Operation}
use Rattle.orders.specs.Order.{operation_of, within_limits, legal_of}

pub legal-row : (o : Order) (op : Operation) → legal_of o ≡ gives op → (operation_of o.code ≡ gives op) × (within_limits op o ≡ true)
unfolding legal_of
legal-row o op h =
    let t = then_gives (operation_of o.code) (λ x. provided (within_limits x o) 5 (gives x)) h in
    let q = provided_gives (within_limits t.0 o) 5 (gives t.0) t.2 in
    let same : t.0 ≡ op = gives_inj q.1 in
    (t.1 ∙ ap gives same, subst (λ (x : Operation). within_limits x o ≡ true) same q.0)

pub record Limited (op : Operation) (o : Order) : Type 0 where
  pub r1 : o.r1 ≤ op.r1
  pub r2 : o.r2 ≤ op.r2
  pub at : o.at ≤ op.at

-- the test, cell by cell
pub within_limited : (op : Operation) (o : Order) → within_limits op o ≡ true → Limited op o
unfolding within_limits
within_limited op o w =
    let a = both (leb o.r1 op.r1) (leb o.r2 op.r2 && leb o.at op.at) w in
    let b = both (leb o.r2 op.r2) (leb o.at op.at) a.1 in
    record { r1 = leb-true o.r1 op.r1 a.0; r2 = leb-true o.r2 op.r2 b.0; at = leb-true o.at op.at b.1 }
