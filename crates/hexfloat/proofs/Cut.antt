-- Laws of a number cut to its first d hexadecimal digits: it has as many, and is the number itself exactly if the digits after them are zero.
use mathlib.Core.Path.{◌≡◌, sym, ap, ap₂, ◌∙◌}
use mathlib.Core.Logic.{⊎_elim}
use Prim.Native.Nat.{ℕ, zero, suc, ◌+◌, ◌-◌, ◌*◌, ◌/◌, ◌%◌, ◌^◌, ◌≤◌, ◌<◌}
use native.Mathlib.Nat.{le_trans, le_of_eq, lt_of_le_of_lt, eq-zero-or-pos, mul_assoc, mul_right_comm, mul-le-mul_right, mul-div_cancel, div-mul-le_self, div-div-eq-div-mul, le-div_iff_mul-le, le_of_mul-le-mul_right, pow-suc}
use native.Mathlib.Omega.{arith}
use lib.Pow.{pow-add}
use Rattle.hexfloat.specs.Normal.{digits}
use Rattle.hexfloat.specs.RoundTrip.{cut_to, ZerosAfter}
use Rattle.hexfloat.proofs.Digits.{pos, digits_are, digits_unique, digits-positive, digits-zero}
use Rattle.hexfloat.proofs.Trichotomy.{below_or_not}

-- the last k digits of n are zeros if each of them is 0 ..
whole : (k n : ℕ) → ((i : ℕ) → i < k → n / 16 ^ i % 16 ≡ 0) → n / 16 ^ k * 16 ^ k ≡ n
whole zero n h = omega arith
whole (suc k) n h =
    ap₂ (λ (u v : ℕ). u * v) (ap (λ (u : ℕ). n / u) (pow-suc 16 k) ∙ sym (div-div-eq-div-mul n (16 ^ k) 16)) (pow-suc 16 k)
    ∙ sym (mul_assoc (n / 16 ^ k / 16) (16 ^ k) 16)
    ∙ mul_right_comm (n / 16 ^ k / 16) (16 ^ k) 16
    ∙ ap (λ (u : ℕ). u * 16 ^ k) (no_rest (n / 16 ^ k) (h k (omega arith)))
    ∙ whole k n (λ i l. h i (omega arith))
  where
    no_rest : (q : ℕ) → q % 16 ≡ 0 → q / 16 * 16 ≡ q
    no_rest q e = omega arith

-- .. and only then
whole_only : (k n : ℕ) → n / 16 ^ k * 16 ^ k ≡ n → (i : ℕ) → i < k → n / 16 ^ i % 16 ≡ 0
whole_only k n e i l =
    ap (λ (u : ℕ). u / 16 ^ i % 16) (sym e ∙ ap (λ (u : ℕ). n / 16 ^ k * u) split ∙ sym (mul_assoc (n / 16 ^ k) (16 ^ (k - suc i) * 16) (16 ^ i)))
    ∙ ap (λ (u : ℕ). u % 16) (mul-div_cancel (n / 16 ^ k * (16 ^ (k - suc i) * 16)) (pos i) ∙ sym (mul_assoc (n / 16 ^ k) (16 ^ (k - suc i)) 16))
    ∙ no_digit (n / 16 ^ k * 16 ^ (k - suc i))
  where
    split : 16 ^ k ≡ 16 ^ (k - suc i) * 16 * 16 ^ i
    split =
        let sum : k ≡ k - suc i + 1 + i = omega arith in
        ap (λ (u : ℕ). 16 ^ u) sum ∙ pow-add 16 (k - suc i + 1) i ∙ ap (λ (u : ℕ). u * 16 ^ i) (pow-add 16 (k - suc i) 1)

    no_digit : (q : ℕ) → q * 16 % 16 ≡ 0
    no_digit q = omega arith

-- a number cut to its first d digits
module _ (d n : ℕ) where
  pub cut_le : cut_to d n ≤ n
  unfolding cut_to
  cut_le = div-mul-le_self n (16 ^ (digits n - d))

  -- nothing is cut from so few
  pub cut_none : digits n ≤ d → cut_to d n ≡ n
  unfolding cut_to
  cut_none h = let e : digits n - d ≡ 0 = omega arith in rw e (omega arith)

  -- the first d digits of more than d
  module _ (some : 0 < d) (many : d < digits n) where
    power : 16 ^ digits n ≡ 16 ^ (d - 1) * 16 ^ (digits n - d) * 16
    power =
        let sum : digits n ≡ d - 1 + (digits n - d) + 1 = omega arith in
        ap (λ (u : ℕ). 16 ^ u) sum ∙ pow-add 16 (d - 1 + (digits n - d)) 1 ∙ ap (λ (u : ℕ). u * 16) (pow-add 16 (d - 1) (digits n - d))

    positive : 0 < n
    positive = ⊎_elim (λ e. let none : digits n ≡ 0 = ap digits e ∙ digits-zero in absurd (omega arith)) (λ p. p) (eq-zero-or-pos n)

    cut_least : 16 ^ digits n ≤ cut_to d n * 16
    unfolding cut_to
    cut_least =
        let least : 16 ^ (d - 1) * 16 ^ (digits n - d) ≤ n = le_of_mul-le-mul_right (le_trans (le_of_eq (sym power)) ((digits_are n).least positive)) (omega arith) in
        le_trans (le_of_eq power) (mul-le-mul_right 16 (mul-le-mul_right (16 ^ (digits n - d)) ((le-div_iff_mul-le (pos (digits n - d))).1 least)))

  -- they are as many as before
  pub cut_digits : 0 < d → digits (cut_to d n) ≡ digits n
  cut_digits some =
      ⊎_elim (λ h. digits_unique (cut_to d n) (digits n) (lt_of_le_of_lt cut_le (digits_are n).most) (cut_least some h)) (λ l. ap digits (cut_none l))
      (below_or_not d (digits n))

  -- and not all zero
  pub cut_positive : 0 < d → 0 < n → 0 < cut_to d n
  cut_positive some h =
      ⊎_elim (λ e. let none : digits n ≡ 0 = sym (cut_digits some) ∙ ap digits e ∙ digits-zero in absurd (omega (arith, digits-positive h))) (λ p. p)
      (eq-zero-or-pos (cut_to d n))

  -- a second cut finds nothing more
  pub cut_again : 0 < d → cut_to d (cut_to d n) ≡ cut_to d n
  unfolding cut_to
  cut_again some = ap (λ (k : ℕ). cut_to d n / 16 ^ (k - d) * 16 ^ (k - d)) (cut_digits some) ∙ ap (λ (u : ℕ). u * 16 ^ (digits n - d)) (mul-div_cancel (n / 16 ^ (digits n - d)) (pos (digits n - d)))

  -- it is the number exactly if the digits after the first d are zero
  pub cut_nothing : ZerosAfter d n → cut_to d n ≡ n
  unfolding cut_to
  cut_nothing h = whole (digits n - d) n h

  pub cut_nothing_only : cut_to d n ≡ n → ZerosAfter d n
  unfolding cut_to
  cut_nothing_only e = whole_only (digits n - d) n e
