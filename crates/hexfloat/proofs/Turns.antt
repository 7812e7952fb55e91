-- Turns of a long division: an estimate from below by the divisor's leading digits where the dividend is wider than a word, what it leaves, its one
-- correction, and two turns in a row.
use mathlib.Core.Path.{◌≡◌, sym, ap, ◌∙◌}
use Prim.Native.Nat.{ℕ, suc, ◌+◌, ◌-◌, ◌*◌, ◌/◌, ◌%◌, ◌^◌, ◌≤◌, ◌<◌}
use native.Mathlib.Nat.{sub-add_cancel, add-le-add_iff_right, add-lt-add_iff_right, add_comm, le_trans, le_of_eq, le_of_lt, lt_of_lt_of_le, lt_of_le_of_lt, le_refl, suc-mul, mul_assoc, mul_comm, mul_right_comm, mul-add, add-mul, mul-le-mul_right, mul-le-mul_left, mul-lt-mul_of_pos_right, le_of_mul-le-mul_right, div-mul-le_self, div-lt_iff_lt-mul, lt-div-mul-add, div-add-mod', mul-add-div_right, add-le-add, mul-le-mul, one-mul, le-div_iff_mul-le}
use native.Mathlib.Omega.{arith}
use lib.Arith.{digits_div, digits_mod}
use lib.Pow.{pow-add}
use Rattle.hexfloat.specs.declared.division.Turn.{Turn}
use Rattle.hexfloat.specs.Operand.{Turning, turn_of}
use Rattle.hexfloat.proofs.Digits.{pos, mono}

-- a number of i digits can be moved left by k in a u64
pub shift_fits : (i k rest : ℕ) → rest < 16 ^ i → i + k ≤ 16 → rest * 16 ^ k < 2 ^ 64
shift_fits i k rest h w = lt_of_lt_of_le (mul-lt-mul_of_pos_right h (pos k)) (le_trans (le_of_eq (sym (pow-add 16 i k))) (mono {j = 16} w))

-- what a turn takes and leaves of q * b + r, with r below b
pub taken : {x : ℕ} (q r b : ℕ) → q * b + r ≡ x → r < b → record { taken = q; rest = r } ≡ turn_of x b
taken q r b e h = λ i. record { taken = (sym (digits_div q h) ∙ ap (λ (y : ℕ). y / b) e) i; rest = (sym (digits_mod q h) ∙ ap (λ (y : ℕ). y % b) e) i }

-- two turns in a row, the second of k digits
pub two_turns : (x k b : ℕ) → 0 < b → x / b * 16 ^ k + x % b * 16 ^ k / b ≡ x * 16 ^ k / b
two_turns x k b some =
    sym (mul-add-div_right some (x / b * 16 ^ k) (x % b * 16 ^ k))
    ∙ ap (λ (y : ℕ). y / b) (ap (λ (y : ℕ). y + x % b * 16 ^ k) (mul_right_comm (x / b) (16 ^ k) b) ∙ sym (add-mul (x / b * b) (x % b) (16 ^ k)) ∙ ap (λ (y : ℕ). y * 16 ^ k) (div-add-mod' x b))

pub seven_last : (n a b : ℕ) (t u : Turn) → 7 ≤ n → 0 < b → t ≡ turn_of (a * 16 ^ (n - 7)) b → u ≡ turn_of (t.rest * 16 ^ 7) b
    → t.taken * 16 ^ 7 + u.taken ≡ a * 16 ^ n / b
seven_last n a b t u h some et eu =
    rw (eu, et)
    (two_turns (a * 16 ^ (n - 7)) 7 b some
    ∙ ap (λ (y : ℕ). y / b) (mul_assoc a (16 ^ (n - 7)) (16 ^ 7) ∙ ap (λ (y : ℕ). a * y) (sym (pow-add 16 (n - 7) 7) ∙ ap (λ (y : ℕ). 16 ^ y) (omega arith))))

-- a quotient of n digits of two normalised fractions has at most one digit more
pub quotient_most : (n a b : ℕ) → 0 < b → a < b * 16 → a * 16 ^ n / b < 16 ^ (1 + n)
quotient_most n a b some near =
    (div-lt_iff_lt-mul some).1
    (lt_of_lt_of_le (mul-lt-mul_of_pos_right near (pos n)) (le_of_eq (mul_assoc b 16 (16 ^ n) ∙ ap (λ (x : ℕ). b * x) (sym (pow-add 16 1 n)) ∙ mul_comm b (16 ^ (1 + n)))))

-- rest * 16^k against b, with the estimate e by the leading digits of b and one more
module _ (k rest b e : ℕ) where
  abbrev pub leading : ℕ
  leading = b / 16 ^ (k - 2) + 1

  abbrev pub high : ℕ
  high = b / 16 ^ k

  module _ (t : Turning k rest b) (is : e ≡ rest * 256 / leading) where
    split : 256 * 16 ^ (k - 2) ≡ 16 ^ k
    split = sym (pow-add 16 2 (k - 2)) ∙ ap (λ (x : ℕ). 16 ^ x) (omega (arith, t.some))

    leading_pos : 0 < leading
    leading_pos = omega arith

    -- the leading digits and one more, with their power, are above b, and by no more than the power
    leading_above : b < leading * 16 ^ (k - 2)
    leading_above = lt_of_lt_of_le (lt-div-mul-add (pos (k - 2))) (le_of_eq (sym (add-mul (b / 16 ^ (k - 2)) 1 (16 ^ (k - 2)) ∙ ap (λ (x : ℕ). b / 16 ^ (k - 2) * 16 ^ (k - 2) + x) (one-mul (16 ^ (k - 2))))))

    -- the estimate is from below
    pub estimate_below : e * b ≤ rest * 16 ^ k
    estimate_below =
        le_trans (mul-le-mul_left e (le_of_lt leading_above))
        (le_trans (le_of_eq (sym (mul_assoc e leading (16 ^ (k - 2)))))
        (le_trans (mul-le-mul_right (16 ^ (k - 2)) (le_trans (le_of_eq (ap (λ (x : ℕ). x * leading) is)) (div-mul-le_self (rest * 256) leading)))
        (le_of_eq (mul_assoc rest 256 (16 ^ (k - 2)) ∙ ap (λ (x : ℕ). rest * x) split))))

    abbrev pub low : ℕ
    low = b - high * 16 ^ k

    parts : low + high * 16 ^ k ≡ b
    parts = sub-add_cancel (div-mul-le_self b (16 ^ k))

    -- what the divisor's digits above take of the dividend
    pub under : e * high ≤ rest
    under =
        le_of_mul-le-mul_right
        (le_trans (le_of_eq (mul_assoc e high (16 ^ k))) (le_trans (mul-le-mul_left e (div-mul-le_self b (16 ^ k))) estimate_below)) (pos k)

    abbrev pub up : ℕ
    up = rest - e * high

    product : e * b ≡ e * low + e * high * 16 ^ k
    product = ap (λ (x : ℕ). e * x) (sym parts) ∙ mul-add e low (high * 16 ^ k) ∙ ap (λ (x : ℕ). e * low + x) (sym (mul_assoc e high (16 ^ k)))

    whole : rest * 16 ^ k ≡ up * 16 ^ k + e * high * 16 ^ k
    whole = ap (λ (x : ℕ). x * 16 ^ k) (sym (sub-add_cancel under)) ∙ add-mul up (e * high) (16 ^ k)

    pub enough : e * low ≤ up * 16 ^ k
    enough = (add-le-add_iff_right (e * high * 16 ^ k)).0 (le_trans (le_of_eq (sym product)) (le_trans estimate_below (le_of_eq whole)))

    abbrev pub remaining : ℕ
    remaining = up * 16 ^ k - e * low

    -- the estimate and what it leaves are the whole
    pub kept : e * b + remaining ≡ rest * 16 ^ k
    kept = ap (λ (x : ℕ). x + remaining) product ∙ regroup (e * low) (e * high * 16 ^ k) (up * 16 ^ k) enough ∙ sym whole
      where
        regroup : (x y z : ℕ) → x ≤ z → x + y + (z - x) ≡ z + y
        regroup x y z h = omega arith

    pub estimate_few : e < 16 ^ 8
    estimate_few =
        let some : 0 < b = omega (arith, t.normal) in
        lt_of_le_of_lt ((le-div_iff_mul-le some).1 estimate_below)
        (lt_of_lt_of_le (quotient_most k rest b some (omega (arith, t.dividend, t.normal))) (mono {j = 8} (omega (arith, t.few))))

    low_most : low < 16 ^ k
    low_most = (add-lt-add_iff_right (high * 16 ^ k)).0 (lt_of_le_of_lt (le_of_eq parts) (lt_of_lt_of_le (lt-div-mul-add (pos k)) (le_of_eq (add_comm (high * 16 ^ k) (16 ^ k)))))

    -- what remains is little more than the divisor
    remaining_most : remaining < b + suc e * 16 ^ (k - 2)
    remaining_most = (add-lt-add_iff_right (e * b)).0 (lt_of_le_of_lt (le_of_eq (add_comm remaining (e * b) ∙ kept)) (lt_of_lt_of_le reach (le_of_eq spread)))
      where
        over : rest * 256 < suc e * leading
        over = lt_of_lt_of_le (lt-div-mul-add leading_pos) (le_of_eq (sym (suc-mul e leading ∙ ap (λ (x : ℕ). x * leading + leading) is)))

        near_above : leading * 16 ^ (k - 2) ≤ b + 16 ^ (k - 2)
        near_above = le_trans (le_of_eq (add-mul (b / 16 ^ (k - 2)) 1 (16 ^ (k - 2)))) (add-le-add (div-mul-le_self b (16 ^ (k - 2))) (le_of_eq (one-mul (16 ^ (k - 2)))))

        reach : rest * 16 ^ k < suc e * (b + 16 ^ (k - 2))
        reach =
            lt_of_le_of_lt (le_of_eq (ap (λ (x : ℕ). rest * x) (sym split) ∙ sym (mul_assoc rest 256 (16 ^ (k - 2)))))
            (lt_of_lt_of_le (mul-lt-mul_of_pos_right over (pos (k - 2))) (le_trans (le_of_eq (mul_assoc (suc e) leading (16 ^ (k - 2)))) (mul-le-mul_left (suc e) near_above)))

        spread : suc e * (b + 16 ^ (k - 2)) ≡ b + suc e * 16 ^ (k - 2) + e * b
        spread = mul-add (suc e) b (16 ^ (k - 2)) ∙ ap (λ (x : ℕ). x + suc e * 16 ^ (k - 2)) (suc-mul e b) ∙ swap (e * b) b (suc e * 16 ^ (k - 2))
          where
            swap : (x y z : ℕ) → x + y + z ≡ y + z + x
            swap x y z = omega arith

    -- so one correction is enough ..
    pub remaining_near : remaining < 2 * b
    remaining_near = total remaining (suc e * 16 ^ (k - 2)) remaining_most small t.normal
      where
        small : suc e * 16 ^ (k - 2) ≤ 16 ^ 13
        small = le_trans (mul-le-mul estimate_few (mono {j = 5} (omega (arith, t.few)))) (le_refl (16 ^ 13))

        total : (x z : ℕ) → x < b + z → z ≤ 16 ^ 13 → 16 ^ 13 ≤ b → x < 2 * b
        total x z l s n = omega arith

    -- .. and it fits a u64 with what is taken from it
    pub shifted_fits : up * 16 ^ k < 2 ^ 64
    shifted_fits = total (up * 16 ^ k) (e * low) enough remaining_near product_most t.divisor
      where
        product_most : e * low ≤ 16 ^ 15
        product_most = le_trans (mul-le-mul (le_of_lt estimate_few) (le_trans (le_of_lt low_most) (mono {j = 7} t.few))) (le_refl (16 ^ 15))

        total : (x y : ℕ) → y ≤ x → x - y < 2 * b → y ≤ 16 ^ 15 → b < 16 ^ 14 → x < 2 ^ 64
        total x y h l u d = omega arith
