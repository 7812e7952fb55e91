-- For the private functions: a block, the orders of one code, each by its place among them.
use Rattle.std.specs.Prelude.{ℕ, ◌+◌, ◌*◌, ◌/◌, ◌%◌, ◌<◌, ◌≤◌, List, [], ◌∷◌, cond, eqb}
use Rattle.hexfloat.specs.Answer.{Answer, gives, stops}
use Rattle.orders.specs.declared.order.Operation.{Operation}
use Rattle.orders.specs.declared.order.Order.{Order}
use Rattle.orders.specs.Order.{operation_of}
use Rattle.chart.specs.declared.block.Block.{Block}
use Rattle.chart.specs.declared.block.Place.{Place}
use Rattle.chart.specs.Chart.{order, listed_from}

abbrev pub block : ℕ → ℕ → ℕ → ℕ → Block
block c a b t = record { code = c; r1s = a; r2s = b; ats = t }

-- how many contents of `at` there are where the bound is n: one where it is not in use
abbrev pub ats_of : ℕ → ℕ → ℕ
ats_of n limit = cond (eqb limit 0) 1 n

-- the block of code c, by the code's row; one without orders where the code is unknown
abbrev pub block_by : ℕ → ℕ → Answer Operation → Block
block_by n c (gives op) = block c (op.r1 + 1) (op.r2 + 1) (ats_of n op.at)
block_by n c (stops k) = block c 0 0 0

unfoldable pub block_of : ℕ → ℕ → Block
block_of n c = block_by n c (operation_of c)

-- how many orders it has
abbrev pub size_of : Block → ℕ
size_of b = b.r1s * b.r2s * b.ats

-- as every row of the table has it
pub record Small (b : Block) : Type 0 where
  pub r1s : b.r1s ≤ 8
  pub r2s : b.r2s ≤ 8
  pub ats : b.ats ≤ 65536

-- the order at place i
unfoldable pub order_in : Block → ℕ → Order
order_in b i = order b.code (i / b.ats / b.r2s) (i / b.ats % b.r2s) (i % b.ats)

-- m orders from place i on
abbrev pub orders_in : Block → ℕ → ℕ → List Order
orders_in b i m = listed_from i m (λ j. order_in b j ∷ [])

abbrev pub all_orders : Block → List Order
all_orders b = orders_in b 0 (size_of b)

-- the place of an order with these cells
unfoldable pub place_in : Block → Place → ℕ
place_in b p = (p.r1 * b.r2s + p.r2) * b.ats + p.at

-- r2 and `at` are such as the block has
pub record Inside (b : Block) (p : Place) : Type 0 where
  pub r2 : p.r2 < b.r2s
  pub at : p.at < b.ats

-- a place whose numbers cells can hold
pub record SmallPlace (p : Place) : Type 0 where
  pub r1 : p.r1 < 8
  pub r2 : p.r2 < 8
  pub at : p.at < 65536

-- the order at a place
abbrev pub order_with : Block → Place → Order
order_with b p = order b.code p.r1 p.r2 p.at

-- m orders that differ in `at` alone, which rises by one
abbrev pub series : Order → ℕ → List Order
series o m = listed_from o.at m (λ t. order o.code o.r1 o.r2 t ∷ [])
