-- `orders::order::Order::address` meets its contract: two halfwords added.
-- Assumes nothing.
use native.Mathlib.Omega.{arith}
use Rattle.orders.specs.Address.{address_of}
use Rattle.orders.proofs.Addresses.{index_below}
use Rattle.orders.proofs.order.Order.address.Goals as goal

pub overflow_add-result : goal.overflow_add-result
overflow_add-result c =
    let a = c.args in
    omega (arith, c.index.ensures, index_below a.self.r2 a.general.now a.selector)

pub returns : goal.returns
unfolding address_of
returns c = rw c.index.ensures
