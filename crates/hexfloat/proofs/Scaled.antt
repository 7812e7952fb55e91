-- A ratio keeps its result where dividend and divisor grow alike, and a signed number its sign where both its parts do.
use mathlib.Core.Path.{◌≡◌, sym, ap, ap₂, ◌∙◌}
use mathlib.Core.Bool.{Bool, cond}
use mathlib.Core.Logic.{⊎_elim}
use Prim.Native.Nat.{ℕ, ◌+◌, ◌-◌, ◌*◌, ◌/◌, ◌^◌, ◌≤◌, ◌<◌}
use native.Mathlib.Nat.{add-mul, mul_assoc, mul_right_comm, mul-le-mul_right, mul-lt-mul_of_pos_right, mul-pos, mul-div-mul_right, zero-mul, ne_of_gt, eq-zero-or-pos}
use native.Mathlib.Omega.{arith}
use lib.Dec.{ltb, leb, eqb}
use borrow.Author.Tests.{lt-ltb, le-ltb, le-leb, lt-leb, eq-eqb, ne_eqb}
use Rattle.hexfloat.specs.Add.{signed}
use Rattle.hexfloat.specs.Normal.{digits, characteristic_of, fraction_of}
use Rattle.hexfloat.specs.Result.{result_of}
use Rattle.hexfloat.proofs.Trichotomy.{below_or_not}

module _ (k : ℕ) (some : 0 < k) where
  -- tests of numbers that grow alike
  scaled_ltb : (a b : ℕ) → ltb (a * k) (b * k) ≡ ltb a b
  scaled_ltb a b =
      ⊎_elim (λ h. rw (lt-ltb (a * k) (b * k) (mul-lt-mul_of_pos_right h some), lt-ltb a b h)) (λ h. rw (le-ltb (a * k) (b * k) (mul-le-mul_right k h), le-ltb a b h))
      (below_or_not a b)

  scaled_leb : (a b : ℕ) → leb (a * k) (b * k) ≡ leb a b
  scaled_leb a b =
      ⊎_elim (λ h. rw (lt-leb (a * k) (b * k) (mul-lt-mul_of_pos_right h some), lt-leb a b h)) (λ h. rw (le-leb (a * k) (b * k) (mul-le-mul_right k h), le-leb a b h))
      (below_or_not b a)

  scaled_zero : (a : ℕ) → eqb (a * k) 0 ≡ eqb a 0
  scaled_zero a = ⊎_elim none more_than_none (eq-zero-or-pos a)
    where
      none : a ≡ 0 → eqb (a * k) 0 ≡ eqb a 0
      none e = rw (eq-eqb (a * k) 0 (ap (λ (x : ℕ). x * k) e ∙ zero-mul k), eq-eqb a 0 e)

      more_than_none : 0 < a → eqb (a * k) 0 ≡ eqb a 0
      more_than_none h = rw (ne_eqb (a * k) 0 (ne_of_gt (mul-pos h some)), ne_eqb a 0 (ne_of_gt h))

  module _ (a b : ℕ) where
    scaled_characteristic : characteristic_of (a * k) (b * k) ≡ characteristic_of a b
    unfolding characteristic_of
    scaled_characteristic = ap digits (ap (λ (x : ℕ). x / (b * k)) (mul_right_comm a k (16 ^ 64)) ∙ mul-div-mul_right (a * 16 ^ 64) b some)

    scaled_fraction : (d : ℕ) → fraction_of d (a * k) (b * k) ≡ fraction_of d a b
    unfolding fraction_of
    scaled_fraction d =
        ap₂ (λ (x c : ℕ). x / (16 ^ c * (b * k))) (mul_right_comm a k (16 ^ (64 + d))) scaled_characteristic
        ∙ ap (λ (x : ℕ). a * 16 ^ (64 + d) * k / x) (sym (mul_assoc (16 ^ characteristic_of a b) b k))
        ∙ mul-div-mul_right (a * 16 ^ (64 + d)) (16 ^ characteristic_of a b * b) some

    pub scaled_result : (d : ℕ) (mask : Bool) (sign : ℕ) → result_of d mask sign (a * k) (b * k) ≡ result_of d mask sign a b
    unfolding result_of
    scaled_result d mask sign =
        rw (
          scaled_zero a,
          ap (λ (x : ℕ). leb x (a * k)) (sym (mul_assoc (16 ^ 63) b k)) ∙ scaled_leb (16 ^ 63 * b) a,
          ap (λ (x : ℕ). ltb x (b * k)) (mul_right_comm a k (16 ^ 65)) ∙ scaled_ltb (a * 16 ^ 65) b,
          scaled_characteristic,
          scaled_fraction d,
        )

  pub scaled_sign : (p n : ℕ) → (signed (p * k) (n * k)).sign ≡ (signed p n).sign
  unfolding signed
  scaled_sign p n = ap (λ (t : Bool). cond t 1 0) (scaled_ltb p n)

-- a difference that grows, 0 where there is none
scaled_difference : (a b k : ℕ) → (a - b) * k ≡ a * k - b * k
scaled_difference a b k = ⊎_elim none some (eq-zero-or-pos (a - b))
  where
    none : a - b ≡ 0 → (a - b) * k ≡ a * k - b * k
    none e =
        let h : a ≤ b = omega arith in
        ap (λ (x : ℕ). x * k) e ∙ zero-mul k ∙ omega (arith, mul-le-mul_right k h)

    some : 0 < a - b → (a - b) * k ≡ a * k - b * k
    some h =
        let e : a ≡ a - b + b = omega arith in
        omega (arith, ap (λ (x : ℕ). x * k) e ∙ add-mul (a - b) b k)

pub scaled_magnitude : (k p n : ℕ) → (signed (p * k) (n * k)).magnitude ≡ (signed p n).magnitude * k
unfolding signed
scaled_magnitude k p n = ap₂ (λ (x y : ℕ). x + y) (sym (scaled_difference p n k)) (sym (scaled_difference n p k)) ∙ sym (add-mul (p - n) (n - p) k)
