-- What check 1 leaves known: a deck has at most 16,384 cells, and so 4,096 orders.
use Prim.Native.Nat.{ℕ, ◌/◌, ◌%◌, ◌≤◌}
use mathlib.Core.Path.{◌≡◌}
use mathlib.Core.List.{List}
use mathlib.Core.Bool.{true}
use lib.Dec.{eqb, leb}
use lib.ListN.{length}
use native.Mathlib.Omega.{arith}
use borrow.Author.Tests.{leb-true}
use Rattle.hexfloat.proofs.Answers.{both}
use Rattle.machine.specs.Check.{deck_sized}
use Rattle.unset.specs.Answer.{Checked}

pub few_cells : (n : ℕ) → deck_sized n ≡ true → n ≤ 16384
unfolding deck_sized
few_cells n h = leb-true n 16384 (both (eqb (n % 4) 0) (leb n 16384) h).1

pub few_orders : (d : List ℕ) → Checked d → length d / 4 ≤ 4096
few_orders d c = omega (arith, few_cells (length d) c.sized)
