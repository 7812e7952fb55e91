-- The theorems about the chart.
use Prim.Native.Nat.{ℕ, ◌+◌, ◌<◌}
use mathlib.Core.Path.{◌≡◌, refl, sym, ap, subst, ◌∙◌}
use mathlib.Core.List.Memᴰ
use mathlib.Core.List.{List, ◌++◌}
use mathlib.Core.Logic.{inl, inr, ⊎_elim}
use lib.ListN.{take, drop}
use lib.Seq.{take-add, drop-drop}
use native.Mathlib.Omega.{arith}
use Rattle.hexfloat.specs.Answer.{gives}
use Rattle.orders.specs.declared.order.Operation.{Operation}
use Rattle.orders.specs.declared.order.Order.{Order}
use Rattle.orders.specs.Order.{legal_of}
use Rattle.orders.proofs.Passing.{legal-row, within_limited}
use Rattle.chart.specs.Chart.{order, if_belongs, chart}
use Rattle.chart.specs.Piece.{piece}
use Rattle.chart.specs.Theorems.{In, Belongs, Rises, IsChart, Theorems}
use Rattle.chart.proofs.Belonging.{row_known, belongs_once, belongs_cases}
use Rattle.chart.proofs.Blocks.{on_at, on_r2, on_r1}
use Rattle.chart.proofs.Charting.{piece_length}
use Rattle.chart.proofs.Members.{listed_for, listed_in, rises_listed, same_orders}
use Rattle.chart.proofs.Totals.{chart_total}

-- what is listed for a cell is the order with it, and belongs
belongs_in : (n : ℕ) (o p : Order) → In o (if_belongs n p) → (o ≡ p) × Belongs n p
belongs_in n o p h =
    ⊎_elim
    (λ q. (Memᴰ.eq_of_singleton (subst (In o) q.0 h), q.1))
    (λ e. absurd (Memᴰ.not-nil (subst (In o) e h)))
    (belongs_cases n p)

belongs_rises : (n : ℕ) (p : Order) → Rises (if_belongs n p)
belongs_rises n p = ⊎_elim (λ q. rw q.0 (λ x h. absurd (Memᴰ.not-nil h), tt)) (λ e. rw e tt) (belongs_cases n p)

module _ (n c : ℕ) where
  -- the cells of what is listed
  cells_at : (a b : ℕ) (o : Order) → In o (on_at n c a b) → (o.code ≡ c) × (o.r1 ≡ a) × (o.r2 ≡ b)
  cells_at a b o h =
      let r = listed_for o 65536 0 (λ t. if_belongs n (order c a b t)) h in
      let e = (belongs_in n o (order c a b r.number) r.listed).0 in
      (ap (λ (x : Order). x.code) e, ap (λ (x : Order). x.r1) e, ap (λ (x : Order). x.r2) e)

  cells_r2 : (a : ℕ) (o : Order) → In o (on_r2 n c a) → (o.code ≡ c) × (o.r1 ≡ a)
  cells_r2 a o h =
      let r = listed_for o 65536 0 (λ b. on_at n c a b) h in
      let e = cells_at a r.number o r.listed in
      (e.0, e.1)

  cells_r1 : (o : Order) → In o (on_r1 n c) → o.code ≡ c
  cells_r1 o h = let r = listed_for o 65536 0 (λ a. on_r2 n c a) h in (cells_r2 r.number o r.listed).0

  -- cell by cell
  rises_at : (a b : ℕ) → Rises (on_at n c a b)
  rises_at a b =
      rises_listed 65536 0 (λ t. if_belongs n (order c a b t)) (λ t. belongs_rises n (order c a b t))
      (λ j k l x y hx hy.
      rw ((belongs_in n x (order c a b j) hx).0, (belongs_in n y (order c a b k) hy).0) (inr (refl, inr (refl, inr (refl, inl l)))))

  rises_r2 : (a : ℕ) → Rises (on_r2 n c a)
  rises_r2 a =
      rises_listed 65536 0 (λ b. on_at n c a b) (rises_at a)
      (λ j k l x y hx hy.
      let p = cells_at a j x hx in
      let q = cells_at a k y hy in
      inr (p.0 ∙ sym q.0, inr (p.1 ∙ sym q.1, inl (omega (arith, p.2, q.2)))))

  rises_r1 : Rises (on_r1 n c)
  rises_r1 =
      rises_listed 65536 0 (λ a. on_r2 n c a) rises_r2
      (λ j k l x y hx hy.
      let p = cells_r2 j x hx in
      let q = cells_r2 k y hy in
      inr (p.0 ∙ sym q.0, inl (omega (arith, p.1, q.1))))

module _ (n : ℕ) where
  chart_rises : Rises (chart n)
  unfolding chart
  chart_rises =
      rises_listed 65536 0 (λ c. on_r1 n c) (rises_r1 n) (λ j k l x y hx hy. inl (omega (arith, cells_r1 n j x hx, cells_r1 n k y hy)))

  chart_only : (o : Order) → In o (chart n) → Belongs n o
  unfolding chart
  chart_only o h =
      let c = listed_for o 65536 0 (λ c. on_r1 n c) h in
      let a = listed_for o 65536 0 (λ a. on_r2 n c.number a) c.listed in
      let b = listed_for o 65536 0 (λ b. on_at n c.number a.number b) a.listed in
      let t = listed_for o 65536 0 (λ t. if_belongs n (order c.number a.number b.number t)) b.listed in
      let q = belongs_in n o (order c.number a.number b.number t.number) t.listed in
      subst (Belongs n) (sym q.0) q.1

  chart_every : (o : Order) → Belongs n o → In o (chart n)
  unfolding chart
  chart_every o h =
      let q = legal-row o h.operation h.legal in
      let row = row_known o.code h.operation q.0 in
      let k = within_limited h.operation o q.1 in
      let small : o.at < 65536 = ⊎_elim (λ e. omega (arith, k.at)) (λ e. omega (arith, k.at)) row.at in
      let once : In o (if_belongs n o) = rw (belongs_once n o h) (Memᴰ.head refl) in
      listed_in o 65536 0 o.code (λ c. on_r1 n c) (omega arith) (omega (arith, row.code))
      (listed_in o 65536 0 o.r1 (λ a. on_r2 n o.code a) (omega arith) (omega (arith, k.r1, row.r1))
      (listed_in o 65536 0 o.r2 (λ b. on_at n o.code o.r1 b) (omega arith) (omega (arith, k.r2, row.r2))
      (listed_in o 65536 0 o.at (λ t. if_belongs n (order o.code o.r1 o.r2 t)) (omega arith) (omega arith) once)))

  is_chart : IsChart n (chart n)
  is_chart = record { only = chart_only; every = chart_every; rises = chart_rises }

  one_chart : (os : List Order) → IsChart n os → os ≡ chart n
  one_chart os h =
      same_orders os (chart n) h.rises chart_rises (λ o k. chart_every o (h.only o k)) (λ o k. h.every o (chart_only o k))

  without_at : (o : Order) (op : Operation) → legal_of o ≡ gives op → op.at ≡ 0 → In o (chart n)
  without_at o op legal none = chart_every o (record { operation = op; legal = legal; below = λ used. absurd (used none) })

  next_piece : (k a b : ℕ) → piece n k (a + b) ≡ piece n k a ++ piece n (k + a) b
  unfolding piece
  next_piece k a b = take-add a b (drop k (chart n)) ∙ ap (λ (os : List Order). take a (drop k (chart n)) ++ take b os) (drop-drop a k (chart n))

pub theorems : Theorems
theorems = record { is_chart = is_chart; one_chart = one_chart; without_at = without_at; total = chart_total; piece_length = piece_length; next_piece = next_piece }
