-- For the private functions: what check 5 and the selector leave known of an order.
use Rattle.std.specs.Prelude.{ℕ, ◌≤◌}
use Rattle.orders.specs.declared.order.Order.{Order}

pub record Numbered (o : Order) (s : ℕ) : Type 0 where
  pub r1 : o.r1 ≤ 7
  pub r2 : o.r2 ≤ 7
  pub selector : s ≤ 1
