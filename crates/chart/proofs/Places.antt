-- A number taken apart by division; the place of an order in its block.
use Prim.Native.Nat.{ℕ, zero, suc, ◌+◌, ◌*◌, ◌-◌, ◌/◌, ◌%◌, ◌<◌, ◌≤◌}
use mathlib.Core.Path.{◌≡◌, ◌∙◌}
use native.Mathlib.Nat.{zero-mul, mul-zero, suc-mul, mul-add-div_right, div-eq_of_lt, mul-add-mod_self_right, mod-eq_of_lt, div-add-mod', mul-le-mul_right}
use mathlib.Core.Logic.{⊎_elim}
use native.Mathlib.Omega.{arith}
use Rattle.hexfloat.proofs.Trichotomy.{below_or_not}
use Rattle.chart.specs.declared.block.Block.{Block}
use Rattle.chart.specs.declared.block.Place.{Place}
use Rattle.chart.specs.Chart.{order}
use Rattle.chart.specs.Block.{size_of, order_in, place_in, Inside}

-- a times b and a rest below b
module _ (a b j : ℕ) (h : j < b) where
  pub row_of : (a * b + j) / b ≡ a
  row_of = mul-add-div_right (omega arith) a j ∙ omega (arith, div-eq_of_lt h)

  pub rest_of : (a * b + j) % b ≡ j
  rest_of = mul-add-mod_self_right a b j ∙ mod-eq_of_lt h

positive : (a b : ℕ) → 0 < a * b → (0 < a) × (0 < b)
positive zero b h = absurd (omega (arith, zero-mul b))
positive (suc a) zero h = absurd (omega (arith, mul-zero (suc a)))
positive (suc a) (suc b) h = (omega arith, omega arith)

module _ (b : Block) where
  -- a block that has an order has an r2 and an `at`
  pub some_r2 : (i : ℕ) → i < size_of b → 0 < b.r2s
  some_r2 i h = (positive b.r1s b.r2s (positive (b.r1s * b.r2s) b.ats (omega arith)).0).1

  pub some_at : (i : ℕ) → i < size_of b → 0 < b.ats
  some_at i h = (positive (b.r1s * b.r2s) b.ats (omega arith)).1

  -- where the orders are that differ from one in `at` alone
  pub order_there : (p : Place) (j : ℕ) → p.r2 < b.r2s → p.at + j < b.ats → order_in b (place_in b p + j) ≡ order b.code p.r1 p.r2 (p.at + j)
  unfolding order_in place_in
  order_there p j h k =
      let x = p.r1 * b.r2s + p.r2 in
      let e : x * b.ats + p.at + j ≡ x * b.ats + (p.at + j) = omega arith in
      rw (e, row_of x b.ats (p.at + j) k, rest_of x b.ats (p.at + j) k, row_of p.r1 b.r2s p.r2 h, rest_of p.r1 b.r2s p.r2 h)

  -- a place from its number
  pub place_again : (i : ℕ) → place_in b (record { r1 = i / b.ats / b.r2s; r2 = i / b.ats % b.r2s; at = i % b.ats }) ≡ i
  unfolding place_in
  place_again i = rw (div-add-mod' (i / b.ats) b.r2s) (div-add-mod' i b.ats)

  module _ (p : Place) (inside : Inside b p) where
    -- the first place after those with the same r1 and r2
    pub next_r2 : place_in b (record { r1 = p.r1; r2 = p.r2 + 1; at = 0 }) ≡ place_in b p + (b.ats - p.at)
    unfolding place_in
    next_r2 =
        let x = p.r1 * b.r2s in
        let e : x + (p.r2 + 1) ≡ suc (x + p.r2) = omega arith in
        rw e (omega (arith, suc-mul (x + p.r2) b.ats, inside.at))

    pub next_r1 : b.r2s ≤ p.r2 + 1 → place_in b (record { r1 = p.r1 + 1; r2 = 0; at = 0 }) ≡ place_in b p + (b.ats - p.at)
    unfolding place_in
    next_r1 last =
        let s : p.r1 + 1 ≡ suc p.r1 = omega arith in
        let e : suc p.r1 * b.r2s + 0 ≡ p.r1 * b.r2s + (p.r2 + 1) = omega (arith, suc-mul p.r1 b.r2s, inside.r2) in
        rw (s, e) next_r2

  -- a place in the block has an r1 of the block
  pub r1_below : (p : Place) → place_in b p < size_of b → p.r1 < b.r1s
  unfolding place_in
  r1_below p h = ⊎_elim (λ l. l) (λ past. absurd (too_far past)) (below_or_not p.r1 b.r1s)
    where
      too_far : b.r1s ≤ p.r1 → ⊥
      too_far past =
          let rows = mul-le-mul_right b.r2s past in
          let l : b.r1s * b.r2s ≤ p.r1 * b.r2s + p.r2 = omega arith in
          omega (arith, mul-le-mul_right b.ats l)
