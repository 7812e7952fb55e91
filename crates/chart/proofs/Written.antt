-- Orders written one after the other, and the cells that they fill.
use Prim.Native.Nat.{ℕ, suc, ◌+◌, ◌*◌, ◌≤◌}
use mathlib.Core.Path.{◌≡◌, refl, ap, ◌∙◌}
use mathlib.Core.List.{List, [], ◌∷◌, ◌++◌}
use lib.ListN.{length, drop}
use lib.Seq.{sets, sets-eq, length-sets}
use native.Mathlib.Nat.{zero-add}
use native.Mathlib.Omega.{arith}
use Rattle.orders.specs.declared.order.Order.{Order}
use Rattle.chart.specs.Piece.{cells_of, all_cells, filled}
use Rattle.chart.specs.Writing.{Writing, writing, with_order, put}

-- some orders, and then others
pub put-joined : (os ps : List Order) (s : Writing) → put (os ++ ps) s ≡ put ps (put os s)
unfolding put
put-joined [] ps s = refl
put-joined (o ∷ os) ps s = put-joined os ps (with_order o s)

pub put-length : (os : List Order) (s : Writing) → length (put os s).cells ≡ length s.cells
unfolding put
put-length [] s = refl
put-length (o ∷ os) s = put-length os (with_order o s) ∙ length-sets s.cells (s.count * 4) (cells_of o)

pub put_count : (os : List Order) (s : Writing) → (put os s).count ≡ s.count + length os
unfolding put
put_count [] s = omega arith
put_count (o ∷ os) s = put_count os (with_order o s) ∙ omega arith

put_cells : (os : List Order) (s : Writing) → (put os s).cells ≡ sets s.cells (s.count * 4) (all_cells os)
unfolding put all_cells
put_cells [] s = refl
put_cells (o ∷ os) s =
    let e : (s.count + 1) * 4 ≡ suc (suc (suc (suc (s.count * 4)))) = omega arith in
    put_cells os (with_order o s) ∙ rw e

pub cells_length : (os : List Order) → length (all_cells os) ≡ length os * 4
unfolding all_cells
cells_length [] = refl
cells_length (o ∷ os) = omega (arith, cells_length os)

-- into an empty buffer that has room for them
pub put-filled : (os : List Order) (c : List ℕ) → length os * 4 ≤ length c → put os (writing c 0) ≡ writing (filled os c) (length os)
put-filled os c h =
    let cells = put_cells os (writing c 0) ∙ sets-eq (all_cells os) c 0 (omega (arith, cells_length os)) ∙ ap (λ (n : ℕ). all_cells os ++ drop n c) (zero-add (length (all_cells os))) in
    let count = put_count os (writing c 0) ∙ zero-add (length os) in
    ap (λ (l : List ℕ). writing l (put os (writing c 0)).count) cells ∙ ap (writing (filled os c)) count
