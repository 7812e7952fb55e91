-- Laws of the definitions of a result and of a quotient: each of their tests, and what is given then.
use mathlib.Core.Path.{◌≡◌, sym, ap₂}
use mathlib.Core.Bool.{Bool}
use Prim.Native.Nat.{ℕ, ◌+◌, ◌*◌, ◌%◌, ◌^◌, ◌≤◌, ◌<◌}
use native.Mathlib.Nat.{le_trans, le_of_eq, lt_of_lt_of_le, lt_of_le_of_lt, ne_of_gt, one-mul, mul-one, mul-le-mul_left, mul-le-mul_right}
use borrow.Author.Tests.{lt-ltb, le-ltb, le-leb, lt-leb, eq-eqb, ne_eqb}
use Rattle.hexfloat.specs.declared.word.Parts.{Parts}
use Rattle.hexfloat.specs.Answer.{gives, stops}
use Rattle.hexfloat.specs.Word.{true_zero, magnitude}
use Rattle.hexfloat.specs.Normal.{characteristic_of, fraction_of}
use Rattle.hexfloat.specs.Result.{result_of, underflow}
use Rattle.hexfloat.specs.Divide.{quotient}
use Rattle.hexfloat.proofs.Digits.{pos}

module _ (d : ℕ) (mask : Bool) (sign a b : ℕ) where
  pub of_zero : a ≡ 0 → result_of d mask sign a b ≡ gives true_zero
  unfolding result_of
  of_zero e = rw (eq-eqb a 0 e)

  module _ (some : 0 < a) where
    pub too_large : 16 ^ 63 * b ≤ a → result_of d mask sign a b ≡ stops 9
    unfolding result_of
    too_large h = rw (ne_eqb a 0 (ne_of_gt some), le-leb (16 ^ 63 * b) a h)

    pub too_small : a * 16 ^ 65 < b → result_of d mask sign a b ≡ underflow mask
    unfolding result_of
    too_small h =
        let l : a < 16 ^ 63 * b
        = lt_of_le_of_lt (le_trans (le_of_eq (sym (mul-one a))) (mul-le-mul_left a (pos 65)))
        (lt_of_lt_of_le h (le_trans (le_of_eq (sym (one-mul b))) (mul-le-mul_right b (pos 63)))) in
        rw (ne_eqb a 0 (ne_of_gt some), lt-leb (16 ^ 63 * b) a l, lt-ltb (a * 16 ^ 65) b h)

    pub number : (c f : ℕ) → a < 16 ^ 63 * b → b ≤ a * 16 ^ 65 → characteristic_of a b ≡ c → fraction_of d a b ≡ f
        → result_of d mask sign a b ≡ gives (record { sign = sign; characteristic = c; fraction = f })
    unfolding result_of
    number c f l h ec ef =
        rw (ne_eqb a 0 (ne_of_gt some), lt-leb (16 ^ 63 * b) a l, le-ltb (a * 16 ^ 65) b h)
        (ap₂ (λ (u v : ℕ). gives (record { sign = sign; characteristic = u; fraction = v })) ec ef)

-- a zero divisor, and any other
module _ (d : ℕ) (mask : Bool) (x y : Parts) where
  pub by_zero : magnitude d y ≡ 0 → quotient d mask x y ≡ stops 8
  unfolding quotient
  by_zero e = rw (eq-eqb (magnitude d y) 0 e)

  pub by_some : 0 < magnitude d y → quotient d mask x y ≡ result_of d mask ((x.sign + y.sign) % 2) (magnitude d x) (magnitude d y)
  unfolding quotient
  by_some h = rw (ne_eqb (magnitude d y) 0 (ne_of_gt h))
