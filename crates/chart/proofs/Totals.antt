-- How many orders the chart has.
use Prim.Native.Nat.{ℕ, zero, suc, ◌+◌, ◌*◌, ◌≤◌}
use mathlib.Core.Path.{◌≡◌, refl, ap, ◌∙◌}
use lib.ListN.{length, length-append}
use native.Mathlib.Omega.{arith}
use Rattle.orders.specs.Order.{row_among, operation_of}
use Rattle.chart.specs.Block.{block_of, size_of, all_orders}
use Rattle.chart.specs.Chart.{listed_from, chart}
use Rattle.chart.proofs.Blocks.{chart_blocks}
use Rattle.chart.proofs.Shown.{orders_length}

-- the sizes of k blocks, from code c on
unfoldable sizes_from : ℕ → ℕ → ℕ → ℕ
sizes_from n c zero = 0
sizes_from n c (suc k) = size_of (block_of n c) + sizes_from n (suc c) k

blocks_length : (n k c : ℕ) → length (listed_from c k (λ x. all_orders (block_of n x))) ≡ sizes_from n c k
unfolding listed_from sizes_from
blocks_length n zero c = refl
blocks_length n (suc k) c =
    length-append (all_orders (block_of n c)) (listed_from (suc c) k (λ x. all_orders (block_of n x)))
    ∙ omega (arith, orders_length (block_of n c) 0 (size_of (block_of n c)), blocks_length n k (suc c))

-- by the rows of the table
sizes : (n : ℕ) → sizes_from n 0 36 ≡ 901 + 1040 * n
unfolding sizes_from block_of operation_of row_among
sizes n = omega arith

pub chart_total : (n : ℕ) → n ≤ 65536 → length (chart n) ≡ 901 + 1040 * n
chart_total n small = ap length (chart_blocks n small) ∙ blocks_length n 36 0 ∙ sizes n
