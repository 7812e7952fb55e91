-- A piece of the chart in a lent buffer of cells (document 02, Job 10).
use Rattle.std.specs.Prelude.{Option, Some, None, ℕ, ◌/◌, ◌%◌, List, [], ◌∷◌, ◌++◌, cond, eqb, length, take, drop}
use Rattle.hexfloat.specs.Answer.{Answer, gives, stops}
use Rattle.orders.specs.declared.order.Order.{Order}
use Rattle.chart.specs.declared.listing.Piece.{Piece}
use Rattle.chart.specs.Chart.{chart}

-- four cells an order
abbrev pub cells_of : Order → List ℕ
cells_of o = o.code ∷ o.r1 ∷ o.r2 ∷ o.at ∷ []

unfoldable pub all_cells : List Order → List ℕ
all_cells [] = []
all_cells (o ∷ os) = cells_of o ++ all_cells os

-- the cells of some orders from the front; those past them stay
abbrev pub filled : List Order → List ℕ → List ℕ
filled os cells = all_cells os ++ drop (length (all_cells os)) cells

-- the orders from rank k on, counted from 0, m of them or what there is
unfoldable pub piece : ℕ → ℕ → ℕ → List Order
piece n k m = take m (drop k (chart n))

-- how many orders the chart has, and how many were written
pub record Counts : Type 0 where
  pub total : ℕ
  pub written : ℕ

-- what the code's answer says: a buffer that is no multiple of four cells is a 19
abbrev pub says_charted : Option Piece → Answer Counts
says_charted None = stops 19
says_charted (Some p) = gives (record { total = p.total; written = p.written })

-- the buffer after a call, and its answer
pub record Outcome : Type 0 where
  pub cells : List ℕ
  pub said : Answer Counts

abbrev pub outcome : List ℕ → Answer Counts → Outcome
outcome c s = record { cells = c; said = s }

abbrev pub piece_into : List ℕ → ℕ → List Order → Outcome
piece_into cells total os = outcome (filled os cells) (gives (record { total = total; written = length os }))

-- the piece from rank k on of the chart for the bound n, as much of it as the buffer holds
unfoldable pub chart_into : ℕ → ℕ → List ℕ → Outcome
chart_into n k cells =
    cond (eqb (length cells % 4) 0)
    (piece_into cells (length (chart n)) (piece n k (length cells / 4)))
    (outcome cells (stops 19))
