-- The four cells of an order in a list.
use Prim.Native.Nat.{ℕ, ◌+◌, ◌*◌, ◌≤◌, ◌<◌}
use mathlib.Core.Path.{◌≡◌, ◌∙◌}
use mathlib.Core.List.{List}
use native.Mathlib.Omega.{arith}
use lib.ListN.{length, get_or, set, length-set}
use lib.Seq.{get_or-set_same, get_or-set_other}
use Rattle.orders.specs.declared.order.Order.{Order}
use Rattle.orders.specs.Order.{order_at}
use Rattle.decktext.specs.Read.{with_cells}

-- the cells before an order's four
pub cell_kept : (c : List ℕ) (n m : ℕ) (o : Order) → m < n * 4 → get_or (with_cells n o c) m 0 ≡ get_or c m 0
cell_kept c n m o h =
    let c1 = set c (n * 4) o.code in
    let c2 = set c1 (n * 4 + 1) o.r1 in
    let c3 = set c2 (n * 4 + 2) o.r2 in
    get_or-set_other c3 (n * 4 + 3) m o.at 0 (λ e. omega arith)
    ∙ get_or-set_other c2 (n * 4 + 2) m o.r2 0 (λ e. omega arith)
    ∙ get_or-set_other c1 (n * 4 + 1) m o.r1 0 (λ e. omega arith)
    ∙ get_or-set_other c (n * 4) m o.code 0 (λ e. omega arith)

pub order_kept : (c : List ℕ) (n j : ℕ) (o : Order) → j < n → order_at (with_cells n o c) j ≡ order_at c j
order_kept c n j o h =
    let a = cell_kept c n (j * 4) o (omega arith) in
    let b = cell_kept c n (j * 4 + 1) o (omega arith) in
    let d = cell_kept c n (j * 4 + 2) o (omega arith) in
    let e = cell_kept c n (j * 4 + 3) o (omega arith) in
    rw (a, b, d, e)

-- the order's own four
pub order-put : (c : List ℕ) (n : ℕ) (o : Order) → n * 4 + 4 ≤ length c → order_at (with_cells n o c) n ≡ o
order-put c n o h =
    let c1 = set c (n * 4) o.code in
    let c2 = set c1 (n * 4 + 1) o.r1 in
    let c3 = set c2 (n * 4 + 2) o.r2 in
    let a : get_or (with_cells n o c) (n * 4) 0 ≡ o.code =
    get_or-set_other c3 (n * 4 + 3) (n * 4) o.at 0 (λ e. omega arith)
    ∙ get_or-set_other c2 (n * 4 + 2) (n * 4) o.r2 0 (λ e. omega arith)
    ∙ get_or-set_other c1 (n * 4 + 1) (n * 4) o.r1 0 (λ e. omega arith)
    ∙ get_or-set_same c (n * 4) o.code 0 (omega arith) in
    let b : get_or (with_cells n o c) (n * 4 + 1) 0 ≡ o.r1 =
    get_or-set_other c3 (n * 4 + 3) (n * 4 + 1) o.at 0 (λ e. omega arith)
    ∙ get_or-set_other c2 (n * 4 + 2) (n * 4 + 1) o.r2 0 (λ e. omega arith)
    ∙ get_or-set_same c1 (n * 4 + 1) o.r1 0 (simp length-set (omega arith)) in
    let d : get_or (with_cells n o c) (n * 4 + 2) 0 ≡ o.r2 =
    get_or-set_other c3 (n * 4 + 3) (n * 4 + 2) o.at 0 (λ e. omega arith)
    ∙ get_or-set_same c2 (n * 4 + 2) o.r2 0 (simp length-set (omega arith)) in
    let e : get_or (with_cells n o c) (n * 4 + 3) 0 ≡ o.at = get_or-set_same c3 (n * 4 + 3) o.at 0 (simp length-set (omega arith)) in
    rw (a, b, d, e)
