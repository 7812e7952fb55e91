-- For the private functions: orders written one after the other into a buffer of cells.
use Rattle.std.specs.Prelude.{ℕ, ◌+◌, ◌*◌, ◌-◌, ◌<◌, ◌≤◌, ◌≡◌, List, [], ◌∷◌, take, drop}
use Rattle.std.proofs.lemmas.List.Edits.{sets}
use Rattle.orders.specs.declared.order.Order.{Order}
use Rattle.chart.specs.declared.block.Block.{Block}
use Rattle.chart.specs.declared.listing.Progress.{Progress}
use Rattle.chart.specs.Piece.{cells_of}
use Rattle.chart.specs.Block.{size_of, all_orders, Small}

-- the buffer, and how many orders it has
pub record Writing : Type 0 where
  pub cells : List ℕ
  pub count : ℕ

abbrev pub writing : List ℕ → ℕ → Writing
writing c w = record { cells = c; count = w }

abbrev pub with_order : Order → Writing → Writing
with_order o s = writing (sets s.cells (s.count * 4) (cells_of o)) (s.count + 1)

-- some orders more
unfoldable pub put : List Order → Writing → Writing
put [] s = s
put (o ∷ os) s = put os (with_order o s)

-- m orders more have room in l cells, and `at` goes from t on
pub record SeriesFits (l count t m : ℕ) : Type 0 where
  pub room : (count + m) * 4 ≤ l
  pub cells : t + m ≤ 65536

-- m orders more of a block, one at least, have room in l cells; they begin at place i
pub record BlockFits (l count : ℕ) (b : Block) (i m : ℕ) : Type 0 where
  pub small : Small b
  pub room : (count + m) * 4 ≤ l
  pub some : 0 < m
  pub within : i + m ≤ size_of b

-- the orders of a block that come after those to skip, as many as have room
abbrev pub shown : ℕ → Block → Progress → List Order
shown room b s = take (room - s.written) (drop s.skip (all_orders b))

-- there is room for so many orders in l cells, and the counts can take a block more
pub record ProgressFits (l room : ℕ) (b : Block) (s : Progress) : Type 0 where
  pub small : Small b
  pub holds : room * 4 ≤ l
  pub written : s.written ≤ room
  pub counted : s.written ≤ s.total
  pub total : s.total ≤ 2147483648

-- what a block adds: its orders are counted, skipped or written
pub record Continues (room : ℕ) (b : Block) (c : List ℕ) (s : Progress) (d : List ℕ) (r : Progress) : Type 0 where
  pub total : r.total ≡ s.total + size_of b
  pub skip : r.skip ≡ s.skip - size_of b
  pub put : writing d r.written ≡ put (shown room b s) (writing c s.written)
