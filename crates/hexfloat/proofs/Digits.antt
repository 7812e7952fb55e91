-- Laws of powers of 16 and of how many hexadecimal digits a number has.
use mathlib.Core.Path.{◌≡◌, refl, sym, ap, ◌∙◌}
use mathlib.Core.Logic.{⊎_elim}
use Prim.Native.Nat.{ℕ, zero, suc, ◌+◌, ◌*◌, ◌/◌, ◌%◌, ◌^◌, ◌≤◌, ◌<◌, zero-le}
use native.Mathlib.Nat.{mod-eq_of_lt, le_refl, le_trans, le_of_eq, lt_of_lt_of_le, lt_of_le_of_lt, le_of_lt, le_antisymm, le_of_suc-le-suc, lt_of_not-le, not-le_of_lt, zero-lt-suc, one-le-pow, pow-suc, pow-le-pow_right, mul-le-mul_right, mul-lt-mul_of_pos_left, mul-lt-mul_of_pos_right, lt_of_mul-lt-mul_right, div-mul-le_self, div-lt_iff_lt-mul, eq-zero-or-pos}
use native.Mathlib.Omega.{arith}
use lib.Pow.{pow-add, pow_mono}
use lib.Count.{count_leading_zeros, leading_top, leading_of_zero}
use Rattle.hexfloat.specs.Normal.{digits_in, digits}

pub pos : (k : ℕ) → 0 < 16 ^ k
pos k = one-le-pow k 16 (zero-lt-suc 15)

pub mono : {i j : ℕ} → i ≤ j → 16 ^ i ≤ 16 ^ j
mono h = pow-le-pow_right (zero-lt-suc 15) h

-- powers in order have exponents in order
pub power_lt : {i j : ℕ} → 16 ^ i < 16 ^ j → i < j
power_lt h = lt_of_not-le (λ (g : _ ≤ _). not-le_of_lt h (mono g))

-- a product of numbers below others is below theirs
pub product-below : {a b m n : ℕ} → a < m → b < n → a * b < m * n
product-below {a} {b} h l = lt_of_le_of_lt (mul-le-mul_right b (le_of_lt h)) (mul-lt-mul_of_pos_left l (omega arith))

-- a hexadecimal digit is four bits
pub four_bits : (k : ℕ) → 2 ^ (4 * k) ≡ 16 ^ k
four_bits zero = refl
four_bits (suc k) =
    let e : 4 * suc k ≡ 4 * k + 4 = omega arith in
    ap (λ (x : ℕ). 2 ^ x) e ∙ pow-add 2 (4 * k) 4 ∙ ap (λ (x : ℕ). x * 16) (four_bits k) ∙ sym (pow-suc 16 k)

digits_in-zero : (k : ℕ) → digits_in k zero ≡ zero
unfolding digits_in
digits_in-zero zero = refl
digits_in-zero (suc k) = refl

-- d is how many digits n has
pub record Digits (n d : ℕ) : Type 0 where
  pub most : n < 16 ^ d
  pub least : 0 < n → 16 ^ d ≤ n * 16

-- one more digit below
one_more : (n d : ℕ) → Digits (n / 16) d → (n / 16 ≡ 0 → d ≡ 0) → 0 < n → Digits n (suc d)
one_more n d r zeros p = record { most = rw pow-suc ((div-lt_iff_lt-mul (zero-lt-suc 15)).0 r.most); least = λ q. rw pow-suc (⊎_elim none some (eq-zero-or-pos (n / 16))) }
  where
    none : n / 16 ≡ 0 → 16 ^ d * 16 ≤ n * 16
    none e = rw (zeros e) (omega arith)

    some : 0 < n / 16 → 16 ^ d * 16 ≤ n * 16
    some q = mul-le-mul_right 16 (le_trans (r.least q) (div-mul-le_self n 16))

digits_in_are : (k n : ℕ) → n ≤ k → Digits n (digits_in k n)
unfolding digits_in
digits_in_are zero zero h = record { most = zero-lt-suc 0; least = λ p. omega arith }
digits_in_are zero (suc n) h = let no : ⊥ = omega arith in absurd no
digits_in_are (suc k) zero h = record { most = zero-lt-suc 0; least = λ p. omega arith }
digits_in_are (suc k) (suc n) h =
    one_more (suc n) (digits_in k (suc n / 16)) (digits_in_are k (suc n / 16) (omega arith)) (λ e. ap (digits_in k) e ∙ digits_in-zero k) (zero-lt-suc n)

pub digits_are : (n : ℕ) → Digits n (digits n)
unfolding digits
digits_are n = digits_in_are n n (le_refl n)

pub digits-zero : digits 0 ≡ 0
unfolding digits digits_in
digits-zero = refl

-- a power of 16 above n lies at or above the power of n's digits
reach : (n j k : ℕ) → n < 16 ^ k → 16 ^ j ≤ n * 16 → j ≤ k
reach n j k h l =
    le_of_suc-le-suc (lt_of_not-le (λ (g : suc k ≤ j).
    not-le_of_lt (mul-lt-mul_of_pos_right h (zero-lt-suc 15)) (le_trans (le_of_eq (sym (pow-suc 16 k))) (le_trans (mono g) l))))

-- so no other count of digits serves
pub digits_unique : (n k : ℕ) → n < 16 ^ k → 16 ^ k ≤ n * 16 → digits n ≡ k
digits_unique n k h l =
    let p : 0 < n = lt_of_mul-lt-mul_right 16 (lt_of_lt_of_le (pos k) l) in
    le_antisymm (reach n (digits n) k h ((digits_are n).least p)) (reach n k (digits n) (digits_are n).most l)

pub digits_le : (n k : ℕ) → n < 16 ^ k → digits n ≤ k
digits_le n k h = ⊎_elim (λ e. le_trans (le_of_eq (ap digits e ∙ digits-zero)) zero-le) (λ p. reach n (digits n) k h ((digits_are n).least p)) (eq-zero-or-pos n)

-- leading zero bits over four are leading zero digits, in a word of k digits
pub leading_digits : (k a : ℕ) → a < 2 ^ (4 * k) → count_leading_zeros (4 * k) a / 4 + digits a ≡ k
leading_digits k a h = ⊎_elim none some (eq-zero-or-pos a)
  where
    none : a ≡ 0 → count_leading_zeros (4 * k) a / 4 + digits a ≡ k
    none e = rw (e, leading_of_zero (4 * k), digits-zero) (omega arith)

    some : 0 < a → count_leading_zeros (4 * k) a / 4 + digits a ≡ k
    some p =
        let t = leading_top (4 * k) a p h in
        let i : ℕ = t.0 / 4 in
        let low : 16 ^ i ≤ a = le_trans (le_of_eq (sym (four_bits i))) (le_trans (pow_mono (omega arith)) t.2) in
        let high : a < 16 ^ suc i = lt_of_lt_of_le t.3 (le_trans (pow_mono {i = suc t.0} {j = 4 * suc i} (omega arith)) (le_of_eq (four_bits (suc i)))) in
        let e : digits a ≡ suc i = digits_unique a (suc i) high (le_trans (le_of_eq (pow-suc 16 i)) (mul-le-mul_right 16 low)) in
        let f : count_leading_zeros (4 * k) a + suc t.0 ≡ 4 * k = t.1 in
        omega arith

-- a number moved left by whole digits, where nothing leaves the word
pub moved_left : {w : ℕ} (x k : ℕ) → x * 16 ^ k < w → x * 2 ^ (4 * k) % w ≡ x * 16 ^ k
moved_left x k h = rw (four_bits k) (mod-eq_of_lt h)

-- powers with one sum of exponents
pub same_power : (a b c d : ℕ) → a + b ≡ c + d → 16 ^ a * 16 ^ b ≡ 16 ^ c * 16 ^ d
same_power a b c d e = sym (pow-add 16 a b) ∙ ap (λ (x : ℕ). 16 ^ x) e ∙ pow-add 16 c d

pub digits-positive : {n : ℕ} → 0 < n → 0 < digits n
digits-positive {n} h = ⊎_elim (λ e. absurd (not-le_of_lt (lt_of_lt_of_le (digits_are n).most (le_of_eq (ap (λ (x : ℕ). 16 ^ x) e))) h)) (λ p. p) (eq-zero-or-pos (digits n))
