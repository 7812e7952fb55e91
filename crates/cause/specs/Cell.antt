-- The cell of an order that breaks check 5 (document 01, 'Lent' and row 5 of the causes; document 02, Job 5).
use Rattle.std.specs.Prelude.{ℕ, ◌<◌, ◌≡◌, Bool, true, false, cond, ltb}
use Rattle.hexfloat.specs.Answer.{Answer, gives, stops}
use Rattle.orders.specs.declared.order.Operation.{Operation}
use Rattle.orders.specs.declared.order.Order.{Order}
use Rattle.orders.specs.Order.{operation_of}
use Rattle.cause.specs.declared.cell.Cell.{Cell}

-- an order's cells in turn
abbrev pub place_of : Cell → ℕ
place_of Cell.Code = 0
place_of Cell.R1 = 1
place_of Cell.R2 = 2
place_of Cell.At = 3

-- the first of code, r1, r2, at that a check refuses; `at` where it refuses none before
unfoldable pub first_cell : (Cell → Bool) → Cell
first_cell refuses = cond (refuses Cell.Code) Cell.Code (cond (refuses Cell.R1) Cell.R1 (cond (refuses Cell.R2) Cell.R2 Cell.At))

-- the check refuses c, and lets pass each cell before it
pub record IsFirstCell (refuses : Cell → Bool) (c : Cell) : Type 0 where
  pub refused : refuses c ≡ true
  pub passed : (e : Cell) → place_of e < place_of c → refuses e ≡ false

-- the cells that break check 5: of a row those above their limits; where no row has the code, the code alone
unfoldable pub breaks_row : Answer Operation → Order → Cell → Bool
breaks_row (gives op) o Cell.Code = false
breaks_row (gives op) o Cell.R1 = ltb op.r1 o.r1
breaks_row (gives op) o Cell.R2 = ltb op.r2 o.r2
breaks_row (gives op) o Cell.At = ltb op.at o.at
breaks_row (stops k) o Cell.Code = true
breaks_row (stops k) o Cell.R1 = false
breaks_row (stops k) o Cell.R2 = false
breaks_row (stops k) o Cell.At = false

abbrev pub breaks : Order → Cell → Bool
breaks o c = breaks_row (operation_of o.code) o c
