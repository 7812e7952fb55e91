-- io's digits are the definition's: a number's fewest digits in base ten.
use mathlib.Core.Path.{◌≡◌, sym, ap, ap₂, subst, ◌∙◌}
use mathlib.Core.List.{List, [], ◌∷◌, ◌++◌}
use Prim.Native.Nat.{ℕ, zero, suc, ◌+◌, ◌-◌, ◌/◌, ◌%◌, ◌^◌, ◌≤◌, ◌<◌}
use native.Mathlib.Nat.{le_of_suc-le-suc, lt_of_not-le, not-le_of_lt, lt_of_lt_of_le, pow-le-pow_right, mod-eq_of_lt, mod-lt, zero-lt-suc, pow-suc, div-lt_iff_lt-mul, le-div_iff_mul-le, le_trans, le_of_eq, mul-le-mul_right, one-le-pow}
use native.Mathlib.Omega.{arith}
use borrow.Author.Tests.{lt-ltb, le-ltb}
use lib.Dec.{lit≤}
use Rattle.io.specs.Digits.{last_digits, IsDigitCount, hex_digit_ascii}
use Rattle.listing.specs.Digits.{decimal_in, decimal}

-- a digit of io's below ten
glyph_is : (d : ℕ) → d < 10 → hex_digit_ascii d ≡ 48 + d
glyph_is d h = rw (lt-ltb d 10 h)

-- k + 1 digits, of which the first is not zero unless it stands alone
written : (k n fuel : ℕ) → n < 10 ^ suc k → (0 < k → 10 ^ k ≤ n) → n < fuel → last_digits 10 (suc k) n ≡ decimal_in fuel n
unfolding decimal_in
written k n zero h l f = let no : ⊥ = omega arith in absurd no
written zero n (suc fuel) h l f =
    ap (λ (b : ℕ). b ∷ []) (ap hex_digit_ascii (mod-eq_of_lt h) ∙ glyph_is n h) ∙ sym (rw (lt-ltb n 10 h))
written (suc k) n (suc fuel) h l f =
    let many : 10 ^ suc k ≤ n = l (zero-lt-suc k) in
    let rest : 10 ^ k ≤ n / 10 = (le-div_iff_mul-le (zero-lt-suc 9)).1 (le_trans (le_of_eq (sym (pow-suc 10 k))) many) in
    let ten : 10 ≤ n = le_trans (mul-le-mul_right 10 (one-le-pow k 10 (zero-lt-suc 9))) (le_trans (le_of_eq (sym (pow-suc 10 k))) many) in
    ap₂ (λ (x : List ℕ) (b : ℕ). x ++ (b ∷ []))
    (written k (n / 10) fuel ((div-lt_iff_lt-mul (zero-lt-suc 9)).1 (rw (sym (pow-suc 10 (suc k))) h)) (λ p. rest) (omega arith))
    (glyph_is (n % 10) (mod-lt n (zero-lt-suc 9)))
    ∙ sym (rw (le-ltb n 10 ten))

-- what io's `decimal` ensures
pub fewest : (n k : ℕ) → IsDigitCount 10 1 n k → last_digits 10 k n ≡ decimal n
unfolding decimal
fewest n zero h = let no : ⊥ = omega (arith, h.0) in absurd no
fewest n (suc k) h = written k n (suc n) h.1 (λ p. subst (λ (x : ℕ). 10 ^ x ≤ n) (pred_is k) (h.2 (omega arith))) (omega arith)
  where
    pred_is : (k : ℕ) → suc k - 1 ≡ k
    pred_is k = omega arith

-- a u64 has at most 20 digits
pub fewest_few : (n k : ℕ) → n < 2 ^ 64 → IsDigitCount 10 1 n k → k ≤ 20
fewest_few n k h f =
    le_of_suc-le-suc (lt_of_not-le (λ (g : 21 ≤ k).
    not-le_of_lt (lt_of_lt_of_le h (lit≤ tt)) (le_trans (pow-le-pow_right (zero-lt-suc 9) {i = 20} {j = k - 1} (omega arith)) (f.2 (omega arith)))))
