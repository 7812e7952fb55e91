-- The orders of a block that are shown: those after the skipped ones, as many as have room.
use Prim.Native.Nat.{ℕ, zero, suc, ◌-◌, ◌<◌, ◌≤◌, min}
use mathlib.Core.Path.{◌≡◌, sym, ap, ◌∙◌}
use mathlib.Core.List.{List, [], ◌∷◌, ◌++◌}
use mathlib.Core.Logic.{⊎_elim}
use lib.ListN.{length, take, drop, drop_of_length-le, length-take}
use lib.Seq.{take-nil, drop-nil, take_all}
use native.Mathlib.Nat.{le_of_lt, mul-le-mul, min-eq_left, min-eq_right, zero-sub, suc-sub-suc, sub-zero, zero-add}
use native.Mathlib.Omega.{arith}
use Rattle.hexfloat.proofs.Trichotomy.{below_or_not}
use Rattle.chart.specs.declared.block.Block.{Block}
use Rattle.chart.specs.declared.listing.Progress.{Progress}
use Rattle.chart.specs.Block.{size_of, Small, order_in, orders_in, all_orders}
use Rattle.chart.specs.Writing.{shown}
use Rattle.chart.proofs.Listed.{singles_length, singles_drop, singles_take}

pub size_below : (b : Block) → Small b → size_of b ≤ 4194304
size_below b s = mul-le-mul (mul-le-mul s.r1s s.r2s) s.ats

module _ (b : Block) where
  pub orders_length : (i m : ℕ) → length (orders_in b i m) ≡ m
  orders_length i m = singles_length (order_in b) m i

  orders_take : (m k i : ℕ) → take k (orders_in b i m) ≡ orders_in b i (min m k)
  orders_take m k i =
      ⊎_elim
      (λ l. take_all k (orders_in b i m) (omega (arith, orders_length i m)) ∙ ap (orders_in b i) (sym (min-eq_left (le_of_lt l))))
      (λ l. singles_take (order_in b) m k i l ∙ ap (orders_in b i) (sym (min-eq_right l)))
      (below_or_not m k)

  module _ (room : ℕ) (s : Progress) where
    pub shown_skipped : size_of b ≤ s.skip → shown room b s ≡ []
    shown_skipped h = ap (take (room - s.written)) (drop_of_length-le (all_orders b) {i = s.skip} (omega (arith, orders_length 0 (size_of b)))) ∙ take-nil (room - s.written)

    pub shown_full : room ≤ s.written → shown room b s ≡ []
    shown_full h = let e : room - s.written ≡ 0 = omega arith in ap (λ (k : ℕ). take k (drop s.skip (all_orders b))) e

    pub shown_some : s.skip < size_of b → shown room b s ≡ orders_in b s.skip (min (size_of b - s.skip) (room - s.written))
    shown_some h =
        ap (take (room - s.written)) (singles_drop (order_in b) (size_of b) s.skip 0 (le_of_lt h) ∙ ap (λ (i : ℕ). orders_in b i (size_of b - s.skip)) (zero-add s.skip))
        ∙ orders_take (size_of b - s.skip) (room - s.written) s.skip

-- of two lists, one after the other
module _ {A : Type 0} where
  drop_both : (xs ys : List A) (k : ℕ) → drop k (xs ++ ys) ≡ drop k xs ++ drop (k - length xs) ys
  drop_both [] ys k = ap (λ (n : ℕ). drop n ys) (sym (sub-zero k)) ∙ ap (λ (l : List A). l ++ drop (k - 0) ys) (sym (drop-nil k))
  drop_both (x ∷ xs) ys zero = ap (λ (n : ℕ). (x ∷ xs) ++ drop n ys) (sym (zero-sub (suc (length xs))))
  drop_both (x ∷ xs) ys (suc k) = drop_both xs ys k ∙ ap (λ (n : ℕ). drop k xs ++ drop n ys) (sym (suc-sub-suc k (length xs)))

  take_both : (xs ys : List A) (k : ℕ) → take k (xs ++ ys) ≡ take k xs ++ take (k - length xs) ys
  take_both [] ys k = ap (λ (n : ℕ). take n ys) (sym (sub-zero k)) ∙ ap (λ (l : List A). l ++ take (k - 0) ys) (sym (take-nil k))
  take_both (x ∷ xs) ys zero = ap (λ (n : ℕ). take n ys) (sym (zero-sub (suc (length xs))))
  take_both (x ∷ xs) ys (suc k) = ap (λ (l : List A). x ∷ l) (take_both xs ys k ∙ ap (λ (n : ℕ). take k xs ++ take n ys) (sym (suc-sub-suc k (length xs))))

  -- what is taken of the second is what the first leaves room for
  pub part_both :
      (xs ys : List A) (k m : ℕ) →
      take m (drop k (xs ++ ys)) ≡ take m (drop k xs) ++ take (m - length (take m (drop k xs))) (drop (k - length xs) ys)
  part_both xs ys k m =
      let e : m - length (drop k xs) ≡ m - length (take m (drop k xs)) = omega (arith, length-take m (drop k xs)) in
      ap (take m) (drop_both xs ys k) ∙ take_both (drop k xs) (drop (k - length xs) ys) m ∙ ap (λ (n : ℕ). take m (drop k xs) ++ take n (drop (k - length xs) ys)) e
