-- The table of digits: one test, which is computed at every byte, and what it says of each.
use Prim.Native.Nat.{ℕ}
use mathlib.Core.Path.{◌≡◌}
use mathlib.Core.Bool.{Bool, true}
use mathlib.Core.List.{List}
use lib.Dec.{eqb}
use lib.ListN.{length, get_or}
use borrow.Author.Tests.{eqb-true}
use Rattle.decktext.specs.Value.{marked_digit}
use Rattle.decktext.specs.DigitTable.{DigitTable}
use Rattle.decktext.proofs.Tested.{all_below, passes}

unfoldable pub right : List ℕ → ℕ → Bool
right t b = eqb (get_or t b 0) (marked_digit b)

pub digit_table : (t : List ℕ) → length t ≡ 256 → all_below (right t) 256 ≡ true → DigitTable t
unfolding right
digit_table t l h = record { size = l; entry = λ b k. eqb-true (get_or t b 0) (marked_digit b) (passes (right t) 256 b h k) }
