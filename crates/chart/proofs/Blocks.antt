-- The chart is the blocks of its codes, one after the other.
use Prim.Native.Nat.{ℕ, ◌+◌, ◌*◌, ◌/◌, ◌%◌, ◌≤◌}
use mathlib.Core.Path.{◌≡◌, refl, sym, ap, ◌∙◌}
use mathlib.Core.List.{List, [], ◌∷◌}
use mathlib.Core.Logic.{⊎_elim}
use native.Mathlib.Nat.{zero-mul}
use native.Mathlib.Omega.{arith}
use Rattle.hexfloat.specs.Answer.{Answer, gives, stops}
use Rattle.hexfloat.proofs.Answers.{never}
use Rattle.orders.specs.declared.order.Operation.{Operation}
use Rattle.orders.specs.declared.order.Order.{Order}
use Rattle.orders.specs.Order.{operation_of}
use Rattle.orders.proofs.Passing.{legal-row}
use Rattle.chart.specs.Block.{block, ats_of, block_by, block_of, Small, order_in, all_orders}
use Rattle.chart.specs.Chart.{order, listed_from, for_each_cell, if_belongs, chart}
use Rattle.chart.specs.Theorems.{Belongs}
use Rattle.chart.proofs.Belonging.{Row, row_known, Within, belongs_within, within_belongs, belongs_once, belongs_not}
use Rattle.chart.proofs.Listed.{listed_none, listed_cut, listed_nested}

-- the orders of code c in the chart for the bound n
module _ (n c : ℕ) where
  abbrev pub on_at : ℕ → ℕ → List Order
  on_at a b = for_each_cell (λ t. if_belongs n (order c a b t))

  abbrev pub on_r2 : ℕ → List Order
  on_r2 a = for_each_cell (λ b. on_at a b)

  abbrev pub on_r1 : List Order
  on_r1 = for_each_cell (λ a. on_r2 a)

  -- none of the orders with these cells belongs
  none_at : (a b : ℕ) → ((t : ℕ) → Belongs n (order c a b t) → ⊥) → on_at a b ≡ []
  none_at a b out = listed_none 65536 0 (λ t. if_belongs n (order c a b t)) (λ t l u. belongs_not n (order c a b t) (out t))

  none_r2 : (a : ℕ) → ((b t : ℕ) → Belongs n (order c a b t) → ⊥) → on_r2 a ≡ []
  none_r2 a out = listed_none 65536 0 (λ b. on_at a b) (λ b l u. none_at a b (out b))

  none_r1 : ((a b t : ℕ) → Belongs n (order c a b t) → ⊥) → on_r1 ≡ []
  none_r1 out = listed_none 65536 0 (λ a. on_r2 a) (λ a l u. none_r2 a (out a))

  -- an unknown code has no order
  none_unknown : (k : ℕ) → operation_of c ≡ stops k → on_r1 ≡ []
  none_unknown k row = none_r1 (λ a b t h. never (sym row ∙ (legal-row (order c a b t) h.operation h.legal).0))

  -- every order that a row lets pass, with `at` below the bound
  module _ (op : Operation) where
    abbrev every_at : ℕ → ℕ → List Order
    every_at a b = listed_from 0 (ats_of n op.at) (λ t. order c a b t ∷ [])

    abbrev every_r2 : ℕ → List Order
    every_r2 a = listed_from 0 (op.r2 + 1) (λ b. every_at a b)

    abbrev every_r1 : List Order
    every_r1 = listed_from 0 (op.r1 + 1) (λ a. every_r2 a)

    row_block : every_r1 ≡ all_orders (block c (op.r1 + 1) (op.r2 + 1) (ats_of n op.at))
    unfolding order_in
    row_block =
        let r1s = op.r1 + 1 in
        let r2s = op.r2 + 1 in
        let ats = ats_of n op.at in
        listed_nested r2s r1s 0 every_at
        ∙ ap (λ (i : ℕ). listed_from i (r1s * r2s) (λ p. every_at (p / r2s) (p % r2s))) (zero-mul r2s)
        ∙ listed_nested ats (r1s * r2s) 0 (λ p t. order c (p / r2s) (p % r2s) t ∷ [])
        ∙ ap (λ (i : ℕ). listed_from i (r1s * r2s * ats) (λ p. order c (p / ats / r2s) (p / ats % r2s) (p % ats) ∷ [])) (zero-mul ats)

  module _ (op : Operation) (row : operation_of c ≡ gives op) (small : n ≤ 65536) where
    known : Row c op
    known = row_known c op row

    within : (a b t : ℕ) → Belongs n (order c a b t) → Within n op (order c a b t)
    within a b t = belongs_within n (order c a b t) op row

    pub ats_small : ats_of n op.at ≤ 65536
    ats_small = ⊎_elim (λ e. rw e (omega arith)) (λ e. rw e small) known.at

    -- these are those that belong
    some_at : (a b : ℕ) → a ≤ op.r1 → b ≤ op.r2 → on_at a b ≡ every_at op a b
    some_at a b ha hb =
        listed_cut (ats_of n op.at) 65536 (λ t. if_belongs n (order c a b t)) (λ t. order c a b t ∷ []) ats_small
        (λ t l. belongs_once n (order c a b t) (within_belongs n (order c a b t) op row small (record { r1 = ha; r2 = hb; at = l })))
        (λ t l u. belongs_not n (order c a b t) (λ h. omega (arith, (within a b t h).at)))

    some_r2 : (a : ℕ) → a ≤ op.r1 → on_r2 a ≡ every_r2 op a
    some_r2 a ha =
        listed_cut (op.r2 + 1) 65536 (λ b. on_at a b) (λ b. every_at op a b) (omega (arith, known.r2))
        (λ b l. some_at a b ha (omega arith))
        (λ b l u. none_at a b (λ t h. omega (arith, (within a b t h).r2)))

    some_r1 : on_r1 ≡ every_r1 op
    some_r1 =
        listed_cut (op.r1 + 1) 65536 (λ a. on_r2 a) (λ a. every_r2 op a) (omega (arith, known.r1))
        (λ a l. some_r2 a (omega arith))
        (λ a l u. none_r2 a (λ b t h. omega (arith, (within a b t h).r1)))

  code_block : n ≤ 65536 → (r : Answer Operation) → operation_of c ≡ r → on_r1 ≡ all_orders (block_by n c r)
  unfolding listed_from
  code_block small (gives op) row = some_r1 op row small ∙ row_block op
  code_block small (stops k) row = none_unknown k row

-- a block as the table of orders gives it
pub block_small : (n c : ℕ) → n ≤ 65536 → Small (block_of n c)
unfolding block_of
block_small n c small = cases (operation_of c) refl
  where
    cases : (r : Answer Operation) → operation_of c ≡ r → Small (block_by n c r)
    cases (gives op) row =
        let k = row_known c op row in
        record { r1s = omega (arith, k.r1); r2s = omega (arith, k.r2); ats = ats_small n c op row small }
    cases (stops k) row = record { r1s = omega arith; r2s = omega arith; ats = omega arith }

abbrev pub blocks_from : ℕ → ℕ → ℕ → List Order
blocks_from n c k = listed_from c k (λ x. all_orders (block_of n x))

pub chart_blocks : (n : ℕ) → n ≤ 65536 → chart n ≡ blocks_from n 0 36
unfolding chart block_of
chart_blocks n small =
    listed_cut 36 65536 (λ c. on_r1 n c) (λ c. all_orders (block_of n c)) (omega arith)
    (λ c l. code_block n c small (operation_of c) refl)
    (λ c l u. past c l (operation_of c) refl)
  where
    past : (c : ℕ) → 36 ≤ c → (r : Answer Operation) → operation_of c ≡ r → on_r1 n c ≡ []
    past c l (gives op) row = absurd (omega (arith, (row_known c op row).code))
    past c l (stops k) row = none_unknown n c k row
