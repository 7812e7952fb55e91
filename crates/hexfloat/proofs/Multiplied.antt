-- What the code of a multiplication has at hand, and what follows of the product.
use mathlib.Core.Path.{◌≡◌, refl, sym, ap, ap₂, ◌∙◌, subst⁻¹}
use mathlib.Core.Bool.{Bool}
use Prim.Native.Nat.{ℕ, ◌+◌, ◌-◌, ◌*◌, ◌/◌, ◌%◌, ◌^◌, ◌≤◌, ◌<◌}
use native.Mathlib.Nat.{le_trans, le_of_eq, lt_of_lt_of_le, not-le_of_lt, lt_of_not-le, mul-le-mul, mul-le-mul_right, mul_assoc, mul_right_comm, mul-mul-mul_comm, mul-add, add-mul, div-add-mod', div-div-eq-div-mul, mul-div-mul_right, zero-mul, mul-zero, mul-pos, pos_of_ne-zero}
use native.Mathlib.Omega.{arith}
use lib.Arith.{digits_div}
use lib.Pow.{pow-add}
use Rattle.hexfloat.specs.declared.normal.Normal.{Normal}
use Rattle.hexfloat.specs.declared.word.Parts.{Parts}
use Rattle.hexfloat.specs.declared.word.Width.{Width}
use Rattle.hexfloat.specs.declared.word.Words.{Words}
use Rattle.hexfloat.specs.Answer.{gives, mapped}
use Rattle.hexfloat.specs.Multiply.{product, product_words}
use Rattle.hexfloat.specs.Normal.{digits}
use Rattle.hexfloat.specs.Operand.{Factors, IsPlaced, first_digits, normalised}
use Rattle.hexfloat.specs.Result.{result_of, sign_by_algebra}
use Rattle.hexfloat.specs.Word.{digits_of, parts_of, words_of, true_zero, magnitude}
use Rattle.hexfloat.proofs.Digits.{pos, mono, product-below, digits_are, digits_le}
use Rattle.hexfloat.proofs.Normalised.{Bounds, bounds, magnitude-zero}
use Rattle.hexfloat.proofs.Placed.{same_place}
use Rattle.hexfloat.proofs.Results.{of_zero}
use Rattle.hexfloat.proofs.Scaled.{scaled_result}
use Rattle.hexfloat.proofs.Wholes.{whole_placed, first_digits-placed}

-- two numbers in two parts each, multiplied out
expanded : (x y z w u : ℕ) → (x * u + y) * (z * u + w) ≡ x * z * (u * u) + (x * w + y * z) * u + y * w
expanded x y z w u =
    omega (
      arith,
      mul-add (x * u + y) (z * u) w,
      add-mul (x * u) y (z * u),
      add-mul (x * u) y w,
      mul-mul-mul_comm x u z u,
      mul_assoc y z u,
      mul_right_comm x u w,
      add-mul (x * w) (y * z) u,
    )

-- Two fractions of 14 digits, each split before its last six, and their four partial products.
module _ (a b : ℕ) where
  abbrev pub high_by_high : ℕ
  high_by_high = a / 16 ^ 6 * (b / 16 ^ 6)

  abbrev pub high_by_low : ℕ
  high_by_low = a / 16 ^ 6 * (b % 16 ^ 6)

  abbrev pub low_by_high : ℕ
  low_by_high = a % 16 ^ 6 * (b / 16 ^ 6)

  abbrev pub low_by_low : ℕ
  low_by_low = a % 16 ^ 6 * (b % 16 ^ 6)

  abbrev pub middle : ℕ
  middle = high_by_low + low_by_high + low_by_low / 16 ^ 6

  partial : a * b ≡ high_by_high * 16 ^ 12 + (high_by_low + low_by_high) * 16 ^ 6 + low_by_low
  partial = ap₂ (λ (x y : ℕ). x * y) (sym (div-add-mod' a (16 ^ 6))) (sym (div-add-mod' b (16 ^ 6))) ∙ expanded (a / 16 ^ 6) (a % 16 ^ 6) (b / 16 ^ 6) (b % 16 ^ 6) (16 ^ 6)

  -- the code's two parts are the whole
  pub parts_whole : (high_by_high + middle / 16 ^ 6) * 16 ^ 12 + (middle % 16 ^ 6 * 16 ^ 6 + low_by_low % 16 ^ 6) ≡ a * b
  parts_whole = omega (arith, partial)

  module _ (ha : a < 16 ^ 14) (hb : b < 16 ^ 14) where
    pub high_by_low_most : high_by_low ≤ 16 ^ 14
    high_by_low_most = mul-le-mul {n₂ = 16 ^ 8} {m₂ = 16 ^ 6} (omega arith) (omega arith)

    pub low_by_high_most : low_by_high ≤ 16 ^ 14
    low_by_high_most = mul-le-mul {n₂ = 16 ^ 6} {m₂ = 16 ^ 8} (omega arith) (omega arith)

    pub low_by_low_most : low_by_low ≤ 16 ^ 12
    low_by_low_most = mul-le-mul {n₂ = 16 ^ 6} {m₂ = 16 ^ 6} (omega arith) (omega arith)

    pub first_part_most : high_by_high + middle / 16 ^ 6 < 16 ^ 16
    first_part_most = omega (arith, parts_whole, product-below ha hb)

-- A product of 28 digits in two parts, of normalised fractions: its first part has all digits that are kept.
module _ (p high low : ℕ) (whole : high * 16 ^ 12 + low ≡ p) (rest : low < 16 ^ 12) (normal : 16 ^ 26 ≤ p) where
  pub first_part_normal : 16 ^ 14 ≤ high
  first_part_normal = omega arith

  many : 15 ≤ digits high
  many = lt_of_not-le (λ (h : digits high ≤ 14). not-le_of_lt (lt_of_lt_of_le (digits_are high).most (mono {j = 14} h)) first_part_normal)

  below : p < 16 ^ (digits high + 12)
  below = lt_of_lt_of_le (omega arith) (le_trans (mul-le-mul_right (16 ^ 12) (digits_are high).most) (le_of_eq (sym (pow-add 16 (digits high) 12))))

  above : 16 ^ (digits high + 12) ≤ p * 16
  above = le_trans (le_of_eq (pow-add 16 (digits high) 12)) (le_trans (mul-le-mul_right (16 ^ 12) ((digits_are high).least (omega (arith, first_part_normal)))) (omega arith))

  module _ (e : ℕ) (fits : e ≤ 14) (few : digits high ≤ 16) where
    -- what is moved out again was not there
    moved_out : (x j : ℕ) → 16 - digits high ≤ j → x * 16 ^ (16 - digits high) / 16 ^ j ≡ x / 16 ^ (j - (16 - digits high))
    moved_out x j h =
        ap (λ (y : ℕ). x * 16 ^ (16 - digits high) / y) (ap (λ (y : ℕ). 16 ^ y) (back j h) ∙ pow-add 16 (j - (16 - digits high)) (16 - digits high))
        ∙ mul-div-mul_right x (16 ^ (j - (16 - digits high))) (pos (16 - digits high))
      where
        back : (j : ℕ) → 16 - digits high ≤ j → j ≡ j - (16 - digits high) + (16 - digits high)
        back j h = omega arith

    -- so cutting the first part is cutting the whole
    same_cut : p * 16 ^ (16 - digits high) / 16 ^ (28 - e) ≡ first_digits e high
    same_cut =
        moved_out p (28 - e) (omega (arith, many))
        ∙ ap (λ (y : ℕ). p / y) (ap (λ (y : ℕ). 16 ^ y) apart ∙ pow-add 16 12 (16 - e - (16 - digits high)))
        ∙ sym (div-div-eq-div-mul p (16 ^ 12) (16 ^ (16 - e - (16 - digits high))))
        ∙ ap (λ (y : ℕ). y / 16 ^ (16 - e - (16 - digits high))) (ap (λ (y : ℕ). y / 16 ^ 12) (sym whole) ∙ digits_div high rest)
        ∙ sym (moved_out high (16 - e) (omega (arith, many)))
      where
        apart : 28 - e - (16 - digits high) ≡ 12 + (16 - e - (16 - digits high))
        apart = omega (arith, many)

    pub product_placed : (place : ℕ) → IsPlaced e (p * 16 ^ place) (16 ^ 184) (place + digits high) 108 (first_digits e high)
    product_placed place =
        same_place refl same_cut
        (whole_placed e p (digits high + 12) (16 - digits high) (28 - e) above below (omega (arith, few)) place 184 (place + digits high) 108 (omega arith))

-- The product of the magnitudes is that of the fractions, moved left by the places of both.
module _ (d : ℕ) (x y : Parts) where
  abbrev pub places : ℕ
  places = x.characteristic + (14 - d) + (y.characteristic + (14 - d))

  pub product_moved : magnitude d x * magnitude d y ≡ x.fraction * y.fraction * 16 ^ places
  unfolding magnitude
  product_moved =
      mul-mul-mul_comm x.fraction (16 ^ (x.characteristic + (14 - d))) y.fraction (16 ^ (y.characteristic + (14 - d)))
      ∙ ap (λ (z : ℕ). x.fraction * y.fraction * z) (sym (pow-add 16 (x.characteristic + (14 - d)) (y.characteristic + (14 - d))))

-- Two short operands that are not zero: the product of their fractions is whole in a u64.
module _ {x y : Parts} (f : Factors 6 x y) where
  pub short_most : x.fraction * y.fraction < 16 ^ 12
  short_most = product-below f.first.fraction f.second.fraction

  pub short_some : 0 < x.fraction * y.fraction
  short_some = mul-pos (pos_of_ne-zero f.some_first) (pos_of_ne-zero f.some_second)

  pub short_placed : (e : ℕ) → e ≤ 14
      → IsPlaced e (magnitude 6 x * magnitude 6 y) (16 ^ 156) (x.characteristic + y.characteristic + digits (x.fraction * y.fraction)) 76 (first_digits e (x.fraction * y.fraction))
  short_placed e fits =
      let p : ℕ = x.fraction * y.fraction in
      let up : ℕ = x.characteristic + y.characteristic + digits p in
      subst⁻¹ (λ (z : ℕ). IsPlaced e z (16 ^ 156) up 76 (first_digits e p)) (product_moved 6 x y)
      (first_digits-placed e p (places 6 x y) 156 up 76 short_some (digits_le p 16 (omega (arith, short_most))) (omega arith) (omega arith))

-- Two long operands that are not zero, and their normalised forms.
module _ {x y : Parts} {n m : Normal} (f : Factors 14 x y) (en : n ≡ normalised 14 x) (em : m ≡ normalised 14 y) where
  pub first_bounds : Bounds 14 x n
  first_bounds = bounds f.first f.some_first en

  pub second_bounds : Bounds 14 y m
  second_bounds = bounds f.second f.some_second em

  pub normal_product : 16 ^ 26 ≤ n.fraction * m.fraction
  normal_product = mul-le-mul {n₁ = 16 ^ 13} {m₁ = 16 ^ 13} (omega (arith, first_bounds.least)) (omega (arith, second_bounds.least))

  -- the exact product, in the places of its factors
  exact_product : magnitude 14 x * magnitude 14 y * 16 ^ 28 ≡ n.fraction * m.fraction * 16 ^ (n.place + m.place)
  exact_product =
      mul-mul-mul_comm (magnitude 14 x) (magnitude 14 y) (16 ^ 14) (16 ^ 14)
      ∙ ap₂ (λ (u v : ℕ). u * v) first_bounds.exact second_bounds.exact
      ∙ mul-mul-mul_comm n.fraction (16 ^ n.place) m.fraction (16 ^ m.place)
      ∙ ap (λ (z : ℕ). n.fraction * m.fraction * z) (sym (pow-add 16 n.place m.place))

  -- so this is its result
  pub result_kept : (e : ℕ) (mask : Bool) → result_of e mask (sign_by_algebra x y) (n.fraction * m.fraction * 16 ^ (n.place + m.place)) (16 ^ 184) ≡ product 14 e mask x y
  unfolding product
  result_kept e mask =
      ap₂ (result_of e mask (sign_by_algebra x y)) (sym exact_product) (pow-add 16 156 28)
      ∙ scaled_result (16 ^ 28) (pos 28) (magnitude 14 x * magnitude 14 y) (16 ^ 156) e mask (sign_by_algebra x y)

-- a zero fraction of either
module _ (d e : ℕ) (mask : Bool) (x y : Parts) where
  pub zero_first : x.fraction ≡ 0 → product d e mask x y ≡ gives true_zero
  unfolding product
  zero_first h = of_zero e mask (sign_by_algebra x y) _ (16 ^ 156) (ap (λ (z : ℕ). z * magnitude d y) (magnitude-zero d x h) ∙ zero-mul (magnitude d y))

  pub zero_second : y.fraction ≡ 0 → product d e mask x y ≡ gives true_zero
  unfolding product
  zero_second h = of_zero e mask (sign_by_algebra x y) _ (16 ^ 156) (ap (λ (z : ℕ). magnitude d x * z) (magnitude-zero d y h) ∙ mul-zero (magnitude d x))

-- the same product in words, where the operands' parts are known
pub in_words : (v w : Width) (mask : Bool) (a b : Words) {x y : Parts} → x ≡ parts_of v a → y ≡ parts_of v b
    → mapped (words_of w) (product (digits_of v) (digits_of w) mask x y) ≡ product_words v w mask a b
unfolding product_words
in_words v w mask a b ex ey = ap₂ (λ (x y : Parts). mapped (words_of w) (product (digits_of v) (digits_of w) mask x y)) ex ey
