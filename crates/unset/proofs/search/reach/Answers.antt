-- `unset::search::reach` meets its contract: by the callees; where a place does not wait there is room for it.
-- Assumes nothing.
use Rattle.unset.proofs.search.reach.Goals as goal
use Prim.Native.Nat.{◌<◌}
use native.Mathlib.Omega.{arith}
use borrow.Author.Tests.{lt-ltb, le-ltb}
use Rattle.unset.specs.Search.{reached, places}
use Rattle.unset.proofs.Stack.{room}

pub returns-else-x-orders : goal.returns-else-x-orders
unfolding reached
returns-else-x-orders c = rw (le-ltb _ _ c.if-x-orders.false)

pub arrive-requires : goal.arrive-requires
arrive-requires c =
    let p = c.requires in
    let inside : c.index.result < places = omega (arith, c.index.ensures, p.1, p.2, c.if-x-orders.true) in
    record { inside = inside; room = room _ _ _ p.0 inside }

pub returns-then-x-orders : goal.returns-then-x-orders
unfolding reached
returns-then-x-orders c = rw (lt-ltb _ _ c.if-x-orders.true, ← c.index.ensures) c.arrive.ensures
