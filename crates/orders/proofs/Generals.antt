-- A general register that is there, and one that is not.
use Prim.Native.Nat.{ℕ, ◌<◌, ◌≤◌}
use mathlib.Core.Path.{◌≡◌, refl}
use mathlib.Core.List.{List}
use mathlib.Core.Bool.{Bool, true, false, cond, ◌&&◌}
use lib.Dec.{leb}
use lib.ListN.{get_or}
use borrow.Author.Tests.{le-leb, lt-leb}
use Rattle.orders.specs.General.{general_cell, general_at}

module _ (n : List ℕ) (s r : ℕ) where
  pub register_there : s ≤ 1 → r ≤ 7 → general_at n s r ≡ get_or n (general_cell s r) 0
  unfolding general_at
  register_there a b = rw (le-leb s 1 a, le-leb r 7 b)

  pub no_set : 1 < s → general_at n s r ≡ 0
  unfolding general_at
  no_set h = rw (lt-leb s 1 h)

  pub no_register : 7 < r → general_at n s r ≡ 0
  unfolding general_at
  no_register h = rw (lt-leb r 7 h) (cases (leb s 1))
    where
      cases : (b : Bool) → cond (b && false) (get_or n (general_cell s r) 0) 0 ≡ 0
      cases true = refl
      cases false = refl
