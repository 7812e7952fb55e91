-- What is proved of the chart, in the words of document 02, Job 10. The proofs are in proofs/Theorems.antt.
use Rattle.std.specs.Prelude.{ℕ, ◌+◌, ◌*◌, ◌-◌, ◌<◌, ◌≤◌, min, ◌≡◌, ◌⊎◌, length}
use mathlib.Core.List.{List, [], ◌∷◌, ◌++◌, Memᴰ}
use Rattle.hexfloat.specs.Answer.{gives}
use Rattle.orders.specs.declared.order.Operation.{Operation}
use Rattle.orders.specs.declared.order.Order.{Order}
use Rattle.orders.specs.Order.{legal_of}
use Rattle.chart.specs.Chart.{chart}
use Rattle.chart.specs.Piece.{cells_of, piece}

-- an order stands in a list
abbrev pub In : Order → List Order → Type 0
In o os = Memᴰ o os

-- it passes check 5, and its `at`, where in use, is below n
pub record Belongs (n : ℕ) (o : Order) : Type 0 where
  pub operation : Operation
  pub legal : legal_of o ≡ gives operation
  pub below : (operation.at ≡ 0 → ⊥) → o.at < n

-- the first cell that differs is smaller
abbrev pub Before : List ℕ → List ℕ → Type 0
Before [] ys = ⊥
Before (x ∷ xs) [] = ⊥
Before (x ∷ xs) (y ∷ ys) = (x < y) ⊎ ((x ≡ y) × Before xs ys)

-- each order comes before every one that follows it: by code, then r1, r2, at
abbrev pub Rises : List Order → Type 0
Rises [] = Unit {0}
Rises (o ∷ os) = ((p : Order) → In p os → Before (cells_of o) (cells_of p)) × Rises os

-- what belongs to a list, and how it is ordered
pub record IsChart (n : ℕ) (os : List Order) : Type 0 where
  pub only : (o : Order) → In o os → Belongs n o
  pub every : (o : Order) → Belongs n o → In o os
  pub rises : Rises os

pub record Theorems : Type 0 where
  -- an order is in the chart exactly if it is legal and its `at`, where in use, is below n; and the chart rises strictly
  pub is_chart : (n : ℕ) → IsChart n (chart n)
  -- there is no other such list
  pub one_chart : (n : ℕ) (os : List Order) → IsChart n os → os ≡ chart n
  -- an order without `at` is there at every n, 0 included
  pub without_at : (n : ℕ) (o : Order) (op : Operation) → legal_of o ≡ gives op → op.at ≡ 0 → In o (chart n)
  pub total : (n : ℕ) → n ≤ 65536 → length (chart n) ≡ 901 + 1040 * n
  -- a piece has as many orders as there is room for, or as are left from its rank on: none from the total on
  pub piece_length : (n k m : ℕ) → length (piece n k m) ≡ min m (length (chart n) - k)
  -- a piece, and the piece that begins where it ends, are one piece
  pub next_piece : (n k a b : ℕ) → piece n k (a + b) ≡ piece n k a ++ piece n (k + a) b
