-- The address of S: what an index adds, and how large it is.
use Prim.Native.Nat.{ℕ, ◌%◌, ◌<◌}
use mathlib.Core.Path.{◌≡◌}
use mathlib.Core.List.{List}
use mathlib.Core.Bool.{Bool, true, false, cond}
use lib.Dec.{eqb}
use native.Mathlib.Omega.{arith}
use borrow.Author.Tests.{eq-eqb, ne_eqb}
use Rattle.orders.specs.declared.order.Order.{Order}
use Rattle.orders.specs.Address.{index_of, address_of}
use Rattle.orders.specs.General.{general_at}

module _ (r : ℕ) (n : List ℕ) (s : ℕ) where
  -- r 0 adds nothing, whatever register 0 holds
  pub index_none : r ≡ 0 → index_of r n s ≡ 0
  unfolding index_of
  index_none h = rw (eq-eqb r 0 h)

  pub index_some : (r ≡ 0 → ⊥) → index_of r n s ≡ general_at n s r % 65536
  unfolding index_of
  index_some h = rw (ne_eqb r 0 h)

  -- a halfword
  pub index_below : index_of r n s < 65536
  unfolding index_of
  index_below = cases (eqb r 0)
    where
      cases : (b : Bool) → cond b 0 (general_at n s r % 65536) < 65536
      cases true = omega arith
      cases false = omega arith

module _ (o : Order) (n : List ℕ) (s : ℕ) where
  -- two halfwords added: at most 131,070
  pub address_below : o.at < 65536 → address_of o n s < 131071
  unfolding address_of
  address_below h = omega (arith, index_below o.r2 n s)

  -- no index: S is at `at`
  pub address_plain : o.r2 ≡ 0 → address_of o n s ≡ o.at
  unfolding address_of
  address_plain h = omega (arith, index_none o.r2 n s h)
