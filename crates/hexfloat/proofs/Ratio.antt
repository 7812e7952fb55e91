-- An exact ratio a / b as a normalised number: the characteristic and the fraction that the definitions compute are the ones that the bounds of the
-- papers name, and no others. Each law is stated once, over the digits d and, for the powers that the papers fix, over a numerator p.
use mathlib.Core.Path.{◌≡◌, sym, ap, ◌∙◌, subst}
use mathlib.Core.Logic.{⊎_elim}
use Prim.Native.Nat.{ℕ, zero, suc, ◌+◌, ◌-◌, ◌*◌, ◌/◌, ◌^◌, ◌≤◌, ◌<◌, zero-le}
use native.Mathlib.Nat.{one-mul, le_trans, le_of_eq, lt_of_lt_of_le, lt_of_le_of_lt, le_antisymm, le_of_suc-le-suc, not-le_of_lt, zero-lt-suc, pow-suc, mul-le-mul_right, mul-le-mul_left, lt_of_mul-lt-mul_right, le_of_mul-le-mul_right, div-mul-le_self, lt-div-mul-add, div-lt_iff_lt-mul, le-div_iff_mul-le, div-eq_of_lt-le, mul_assoc, mul_comm, mul_right_comm, suc-mul, mul-pos, eq-zero-or-pos}
use native.Mathlib.Omega.{arith}
use native.Mathlib.Numerals.{add-one}
use lib.Pow.{pow-add}
use Rattle.hexfloat.specs.Normal.{digits, characteristic_of, fraction_of, IsCharacteristic, IsFraction, IsBelowZero}
use Rattle.hexfloat.proofs.Digits.{pos, mono, digits_are, digits_unique, digits-zero}

-- p / b has c digits, where 16^c * b lies between p and 16 p
ratio_digits : (p b c : ℕ) → 0 < b → 16 ^ c * b ≤ p * 16 → p < 16 ^ c * b → digits (p / b) ≡ c
ratio_digits p b zero h l m =
    let e : p / b ≡ 0 = le_antisymm (le_of_suc-le-suc ((div-lt_iff_lt-mul h).1 m)) zero-le in
    ap digits e ∙ digits-zero
ratio_digits p b (suc c) h l m =
    let low : 16 ^ c * b ≤ p = le_of_mul-le-mul_right (le_trans (le_of_eq (mul_right_comm (16 ^ c) b 16 ∙ ap (λ (x : ℕ). x * b) (sym (pow-suc 16 c)))) l) (zero-lt-suc 15) in
    digits_unique (p / b) (suc c) ((div-lt_iff_lt-mul h).1 m)
    (le_trans (le_of_eq (pow-suc 16 c)) (mul-le-mul_right 16 ((le-div_iff_mul-le h).1 low)))

pub characteristic_unique : {a b c : ℕ} → 0 < b → IsCharacteristic a b c → characteristic_of a b ≡ c
unfolding characteristic_of
characteristic_unique {a} {b} {c} h r = ratio_digits (a * 16 ^ 64) b c h (le_trans r.least (le_of_eq (sym (mul_assoc a (16 ^ 64) 16)))) r.most

-- a ratio of 16^(-65) or more has a characteristic, and the definition gives it
pub characteristic_is : {a b : ℕ} → 0 < b → b ≤ a * 16 ^ 65 → IsCharacteristic a b (characteristic_of a b)
unfolding characteristic_of
characteristic_is {a} {b} h l = record {
  least = ⊎_elim none some (eq-zero-or-pos n);
  most = (div-lt_iff_lt-mul h).0 (digits_are n).most;
}
  where
    n : ℕ
    n = a * 16 ^ 64 / b

    none : n ≡ 0 → 16 ^ digits n * b ≤ a * 16 ^ 65
    none e = rw (ap digits e ∙ digits-zero) (le_trans (le_of_eq (one-mul b)) l)

    some : 0 < n → 16 ^ digits n * b ≤ a * 16 ^ 65
    some p =
        le_trans (mul-le-mul_right b ((digits_are n).least p))
        (le_trans (le_of_eq (mul_right_comm n 16 b))
        (le_trans (mul-le-mul_right 16 (div-mul-le_self (a * 16 ^ 64) b)) (le_of_eq (mul_assoc a (16 ^ 64) 16))))

-- a quotient of whole numbers and its bounds
pub cut_is : (p x : ℕ) → 0 < x → (p / x * x ≤ p) × (p < suc (p / x) * x)
cut_is p x h = (div-mul-le_self p x, lt_of_lt_of_le (lt-div-mul-add h) (le_of_eq (sym (suc-mul (p / x) x))))

pub cut_unique : (p x f : ℕ) → f * x ≤ p → p < suc f * x → p / x ≡ f
cut_unique p x f l m = div-eq_of_lt-le x l (subst (λ (y : ℕ). p < y * x) (sym (add-one f)) m)

-- so has its fraction of d digits
pub fraction_is : (d : ℕ) {a b : ℕ} → 0 < b → IsFraction d a b (characteristic_of a b) (fraction_of d a b)
unfolding fraction_of
fraction_is d {a} {b} h =
    let r = cut_is (a * 16 ^ (64 + d)) (16 ^ characteristic_of a b * b) (mul-pos (pos (characteristic_of a b)) h) in
    record { least = r.0; most = r.1 }

pub fraction_unique : (d : ℕ) {a b c f : ℕ} → characteristic_of a b ≡ c → IsFraction d a b c f → fraction_of d a b ≡ f
unfolding fraction_of
fraction_unique d {a} {b} {c} {f} e r =
    ap (λ (x : ℕ). a * 16 ^ (64 + d) / (16 ^ x * b)) e ∙ cut_unique (a * 16 ^ (64 + d)) (16 ^ c * b) f r.least r.most

-- a characteristic above 127 is a ratio of 16^63 or more, and no other is
pub above : {a b c : ℕ} → IsCharacteristic a b c → 127 < c → 16 ^ 63 * b ≤ a
above {a} {b} {c} r h =
    le_of_mul-le-mul_right (le_trans (le_of_eq (mul_right_comm (16 ^ 63) b (16 ^ 65))) (le_trans (mul-le-mul_right b (mono h)) r.least)) (pos 65)

pub not_above : {a b c : ℕ} → IsCharacteristic a b c → c ≤ 127 → a < 16 ^ 63 * b
not_above {a} {b} {c} r h =
    lt_of_mul-lt-mul_right (16 ^ 64)
    (lt_of_lt_of_le r.most (le_trans (mul-le-mul_right b (mono h)) (le_of_eq (sym (mul_right_comm (16 ^ 63) b (16 ^ 64))))))

-- a characteristic below 0 is a ratio below 16^(-65), and no other is
pub below : {a b k : ℕ} → IsBelowZero a b k → 0 < k → a * 16 ^ 65 < b
below {a} {b} {k} r h = lt_of_le_of_lt (mul-le-mul_left a (mono (add_le_add_left h))) r.most
  where
    add_le_add_left : 0 < k → 65 ≤ 64 + k
    add_le_add_left p = omega arith

pub not_below : {a b c : ℕ} → IsCharacteristic a b c → b ≤ a * 16 ^ 65
not_below {a} {b} {c} r = le_trans (le_trans (le_of_eq (sym (one-mul b))) (mul-le-mul_right b (pos c))) r.least

-- b lies between two powers of 16 times a, the ones next to the last m for which a * m < b
between : (a b : ℕ) → 0 < a → a < b → (j : ℕ) × (a * 16 ^ j < b) × (b ≤ a * 16 ^ suc j)
between a b h l = go (digits ((b - 1) / a)) (digits_are ((b - 1) / a)).most ((digits_are ((b - 1) / a)).least ((le-div_iff_mul-le h).1 (le_trans (le_of_eq (one-mul a)) (omega arith))))
  where
    go : (d : ℕ) → (b - 1) / a < 16 ^ d → 16 ^ d ≤ (b - 1) / a * 16 → (j : ℕ) × (a * 16 ^ j < b) × (b ≤ a * 16 ^ suc j)
    go zero m _ = let no : ⊥ = not-le_of_lt m ((le-div_iff_mul-le h).1 (le_trans (le_of_eq (one-mul a)) (omega arith))) in absurd no
    go (suc j) m n =
        let low : 16 ^ j * a ≤ b - 1 = (le-div_iff_mul-le h).0 (le_of_mul-le-mul_right (le_trans (le_of_eq (sym (pow-suc 16 j))) n) (zero-lt-suc 15)) in
        let high : b - 1 < 16 ^ suc j * a = (div-lt_iff_lt-mul h).0 m in
        (j, rw (mul_comm a (16 ^ j)) (omega arith), rw (mul_comm a (16 ^ suc j)) (omega arith))

-- so a ratio below 16^(-65) has a characteristic below 0
pub below-zero : {a b : ℕ} → 0 < a → a * 16 ^ 65 < b → (k : ℕ) × (0 < k) × IsBelowZero a b k
below-zero {a} {b} h l =
    let r = between (a * 16 ^ 65) b (mul-pos h (pos 65)) l in
    (suc r.0, zero-lt-suc r.0, record { least = le_trans r.2 (le_of_eq (raised (suc r.0))); most = lt_of_le_of_lt (le_of_eq (sym (raised r.0 ∙ ap (λ (x : ℕ). a * 16 ^ x) (next r.0)))) r.1 })
  where
    raised : (j : ℕ) → a * 16 ^ 65 * 16 ^ j ≡ a * 16 ^ (65 + j)
    raised j = mul_assoc a (16 ^ 65) (16 ^ j) ∙ ap (λ (x : ℕ). a * x) (sym (pow-add 16 65 j))

    next : (j : ℕ) → 65 + j ≡ 64 + suc j
    next j = omega arith
