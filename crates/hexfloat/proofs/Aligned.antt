-- Laws of alignment: an aligned fraction is the exact magnitude cut to the digits that are kept, over the guard digits and the digits d.
use mathlib.Core.Path.{◌≡◌, refl, sym, ap, ◌∙◌}
use mathlib.Core.Logic.{⊎_elim}
use Prim.Native.Nat.{ℕ, suc, ◌+◌, ◌-◌, ◌*◌, ◌/◌, ◌%◌, ◌^◌, ◌≤◌, ◌<◌}
use native.Mathlib.Nat.{le_trans, le_of_eq, le_of_suc-le-suc, lt_of_lt_of_le, lt_of_le_of_lt, lt_of_mul-lt-mul_right, mul-le-mul_right, mul-lt-mul_of_pos_right, mul_assoc, mul_right_comm, mul-pos, zero-mul, div-one, div-eq_of_lt, div-le_self, div-add-mod'}
use native.Mathlib.Omega.{arith}
use borrow.Author.Tests.{lt-ltb, le-ltb}
use lib.Pow.{pow-add}
use Rattle.hexfloat.specs.declared.word.Parts.{Parts}
use Rattle.hexfloat.specs.Align.{common_characteristic, aligned, IsAligned}
use Rattle.hexfloat.specs.Word.{magnitude}
use Rattle.hexfloat.proofs.Digits.{pos}
use Rattle.hexfloat.proofs.Ratio.{cut_is, cut_unique}
use Rattle.hexfloat.proofs.Trichotomy.{below_or_not}

-- the common characteristic is the larger of the two
module _ (x y : Parts) where
  pub common_second : x.characteristic < y.characteristic → common_characteristic x y ≡ y.characteristic
  unfolding common_characteristic
  common_second h = rw (lt-ltb x.characteristic y.characteristic h)

  pub common_first : y.characteristic ≤ x.characteristic → common_characteristic x y ≡ x.characteristic
  unfolding common_characteristic
  common_first h = rw (le-ltb x.characteristic y.characteristic h)

  -- so what holds of the second, where it is larger, and else of the first holds of it
  common_by : (P : ℕ → Type 0) → (x.characteristic < y.characteristic → P y.characteristic) → (y.characteristic ≤ x.characteristic → P x.characteristic) → P (common_characteristic x y)
  common_by P second first =
      ⊎_elim (λ h. rw (common_second h) (second h)) (λ h. rw (common_first h) (first h)) (below_or_not x.characteristic y.characteristic)

pub common_left : (x y : Parts) → x.characteristic ≤ common_characteristic x y
common_left x y = common_by x y (λ k. x.characteristic ≤ k) (λ h. omega arith) (λ h. omega arith)

pub common_swapped : (x y : Parts) → common_characteristic x y ≡ common_characteristic y x
common_swapped x y =
    common_by x y (λ k. k ≡ common_characteristic y x) (λ h. sym (common_first y x (omega arith)))
    (λ h. common_by y x (λ k. x.characteristic ≡ k) (λ l. refl) (λ l. omega arith))

pub common_right : (x y : Parts) → y.characteristic ≤ common_characteristic x y
common_right x y = rw (common_swapped x y) (common_left y x)

pub common_most : {k : ℕ} (x y : Parts) → x.characteristic ≤ k → y.characteristic ≤ k → common_characteristic x y ≤ k
common_most {k} x y hx hy = common_by x y (λ c. c ≤ k) (λ h. hy) (λ h. hx)

-- a fraction of d digits with g guard digits
pub guarded_most : (g d : ℕ) {f : ℕ} → f < 16 ^ d → f * 16 ^ g < 16 ^ (d + g)
guarded_most g d h = lt_of_lt_of_le (mul-lt-mul_of_pos_right h (pos g)) (le_of_eq (sym (pow-add 16 d g)))

module _ (g c : ℕ) (p : Parts) where
  -- all digits are moved out
  pub aligned_gone : p.fraction * 16 ^ g < 16 ^ (c - p.characteristic) → aligned g c p ≡ 0
  unfolding aligned
  aligned_gone h = div-eq_of_lt h

  -- nothing is moved
  pub aligned_level : c ≡ p.characteristic → aligned g c p ≡ p.fraction * 16 ^ g
  unfolding aligned
  aligned_level e = ap (λ (k : ℕ). p.fraction * 16 ^ g / 16 ^ k) {y = 0} (omega arith) ∙ div-one (p.fraction * 16 ^ g)

  pub aligned_most : (d : ℕ) → p.fraction < 16 ^ d → aligned g c p < 16 ^ (d + g)
  unfolding aligned
  aligned_most d h = lt_of_le_of_lt (div-le_self (p.fraction * 16 ^ g) (16 ^ (c - p.characteristic))) (guarded_most g d h)

  module _ (d : ℕ) (h : p.characteristic ≤ c) where
    -- a unit of the last digit kept, in units of the fraction with its guard digits
    unit : (f : ℕ) → f * 16 ^ (c + (14 - d)) ≡ f * 16 ^ (c - p.characteristic) * 16 ^ (p.characteristic + (14 - d))
    unit f =
        ap (λ (z : ℕ). f * z) (ap (λ (z : ℕ). 16 ^ z) (omega arith) ∙ pow-add 16 (c - p.characteristic) (p.characteristic + (14 - d)))
        ∙ sym (mul_assoc f (16 ^ (c - p.characteristic)) (16 ^ (p.characteristic + (14 - d))))

    whole : magnitude d p * 16 ^ g ≡ p.fraction * 16 ^ g * 16 ^ (p.characteristic + (14 - d))
    unfolding magnitude
    whole = mul_right_comm p.fraction (16 ^ (p.characteristic + (14 - d))) (16 ^ g)

    pub aligned_is : IsAligned d g c p (aligned g c p)
    unfolding aligned
    aligned_is =
        let r = cut_is (p.fraction * 16 ^ g) (16 ^ (c - p.characteristic)) (pos (c - p.characteristic)) in
        record {
          least = le_trans (le_of_eq (unit (aligned g c p))) (le_trans (mul-le-mul_right (16 ^ (p.characteristic + (14 - d))) r.0) (le_of_eq (sym whole)));
          most = lt_of_le_of_lt (le_of_eq whole) (lt_of_lt_of_le (mul-lt-mul_of_pos_right r.1 (pos (p.characteristic + (14 - d)))) (le_of_eq (sym (unit (suc (aligned g c p))))));
        }

    -- what is left of nothing is nothing
    pub aligned_some : 0 < aligned g c p → 0 < magnitude d p
    aligned_some l =
        lt_of_mul-lt-mul_right (16 ^ g) (lt_of_le_of_lt (le_of_eq (zero-mul (16 ^ g))) (lt_of_lt_of_le (mul-pos l (pos (c + (14 - d)))) aligned_is.least))

    -- where only zeros are dropped, the magnitude is kept
    pub aligned_kept : p.fraction * 16 ^ g % 16 ^ (c - p.characteristic) ≡ 0 → aligned g c p * 16 ^ (c + (14 - d)) ≡ magnitude d p * 16 ^ g
    unfolding aligned
    aligned_kept e = unit (aligned g c p) ∙ ap (λ (x : ℕ). x * 16 ^ (p.characteristic + (14 - d))) exact ∙ sym whole
      where
        exact : p.fraction * 16 ^ g / 16 ^ (c - p.characteristic) * 16 ^ (c - p.characteristic) ≡ p.fraction * 16 ^ g
        exact = omega (arith, e, div-add-mod' (p.fraction * 16 ^ g) (16 ^ (c - p.characteristic)))

-- no other number has the bounds of an aligned fraction
pub aligned_unique : {d g c f f' : ℕ} {p : Parts} → IsAligned d g c p f → IsAligned d g c p f' → f ≡ f'
aligned_unique {d} {g} {c} {f} {f'} {p} r s =
    sym (cut_unique (magnitude d p * 16 ^ g) (16 ^ (c + (14 - d))) f r.least r.most)
    ∙ cut_unique (magnitude d p * 16 ^ g) (16 ^ (c + (14 - d))) f' s.least s.most

-- a magnitude that is no larger has no larger fraction at the same characteristic
pub aligned_mono : (d g : ℕ) {c : ℕ} (x y : Parts) → x.characteristic ≤ c → y.characteristic ≤ c → magnitude d x ≤ magnitude d y → aligned g c x ≤ aligned g c y
aligned_mono d g {c} x y hx hy h =
    le_of_suc-le-suc (lt_of_mul-lt-mul_right (16 ^ (c + (14 - d)))
    (lt_of_le_of_lt (aligned_is g c x d hx).least (lt_of_le_of_lt (mul-le-mul_right (16 ^ g) h) (aligned_is g c y d hy).most)))
