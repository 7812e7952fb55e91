-- Where a ratio stands: its characteristic and its fraction are kept where the dividend and the divisor grow alike. So they are those of the normalised
-- fractions, with the places apart; and a characteristic that is known as a difference of places is known.
use mathlib.Core.Path.{◌≡◌, sym, ap, ◌∙◌, subst, subst₂}
use mathlib.Core.Bool.{Bool}
use Prim.Native.Nat.{ℕ, suc, ◌+◌, ◌-◌, ◌*◌, ◌/◌, ◌^◌, ◌≤◌, ◌<◌}
use native.Mathlib.Nat.{le_trans, le_of_eq, lt_of_lt_of_le, lt_of_le_of_lt, mul-le-mul_right, mul-lt-mul_of_pos_right, lt_of_mul-lt-mul_right, le_of_mul-le-mul_right, mul_assoc, mul_comm, mul_right_comm}
use native.Mathlib.Omega.{arith}
use lib.Pow.{pow-add}
use Rattle.hexfloat.specs.Normal.{IsCharacteristic, IsBelowZero, IsFraction}
use Rattle.hexfloat.specs.Answer.{gives, stops}
use Rattle.hexfloat.specs.Result.{result_of, underflow}
use Rattle.hexfloat.specs.Operand.{IsPlaced}
use Rattle.hexfloat.proofs.Digits.{pos, same_power}
use Rattle.hexfloat.proofs.Ratio.{cut_is}
use Rattle.hexfloat.proofs.Theorems.{exact_result}

-- the bounds of a characteristic and of a fraction, with x for the divisor times the power of the characteristic
pub record Bounded (d a x f : ℕ) : Type 0 where
  pub least : x ≤ a * 16 ^ 65
  pub most : a * 16 ^ 64 < x
  pub cut_least : f * x ≤ a * 16 ^ (64 + d)
  pub cut_most : a * 16 ^ (64 + d) < suc f * x

module _ {d a x f : ℕ} (s : ℕ) (some : 0 < s) where
  pub grown : Bounded d a x f → Bounded d (a * s) (x * s) f
  grown r = record {
    least = le_trans (mul-le-mul_right s r.least) (le_of_eq (mul_right_comm a (16 ^ 65) s));
    most = lt_of_le_of_lt (le_of_eq (mul_right_comm a s (16 ^ 64))) (mul-lt-mul_of_pos_right r.most some);
    cut_least = le_trans (le_of_eq (sym (mul_assoc f x s))) (le_trans (mul-le-mul_right s r.cut_least) (le_of_eq (mul_right_comm a (16 ^ (64 + d)) s)));
    cut_most = lt_of_le_of_lt (le_of_eq (mul_right_comm a s (16 ^ (64 + d)))) (lt_of_lt_of_le (mul-lt-mul_of_pos_right r.cut_most some) (le_of_eq (mul_assoc (suc f) x s)));
  }

  pub shrunk : Bounded d (a * s) (x * s) f → Bounded d a x f
  shrunk r = record {
    least = le_of_mul-le-mul_right (le_trans r.least (le_of_eq (mul_right_comm a s (16 ^ 65)))) some;
    most = lt_of_mul-lt-mul_right s (lt_of_le_of_lt (le_of_eq (mul_right_comm a (16 ^ 64) s)) r.most);
    cut_least = le_of_mul-le-mul_right (le_trans (le_of_eq (mul_assoc f x s)) (le_trans r.cut_least (le_of_eq (mul_right_comm a s (16 ^ (64 + d)))))) some;
    cut_most = lt_of_mul-lt-mul_right s (lt_of_le_of_lt (le_of_eq (mul_right_comm a (16 ^ (64 + d)) s)) (lt_of_lt_of_le r.cut_most (le_of_eq (sym (mul_assoc (suc f) x s)))));
  }

-- a power taken out
pub parted : (f i j k : ℕ) → i + j ≡ k → f * 16 ^ k ≡ f * 16 ^ i * 16 ^ j
parted f i j k h = ap (λ (z : ℕ). f * z) (ap (λ (z : ℕ). 16 ^ z) (sym h) ∙ pow-add 16 i j) ∙ sym (mul_assoc f (16 ^ i) (16 ^ j))

-- The ratio of two numbers in normalised form: a * 16^d is f * 16^p and b * 16^d is g * 16^q, with fractions f and g of d digits, and `lead` is 1 where
-- their quotient has a digit before the point.
module _ (d a b f p g q lead : ℕ) (ea : a * 16 ^ d ≡ f * 16 ^ p) (eb : b * 16 ^ d ≡ g * 16 ^ q) (low : g * 16 ^ lead ≤ f * 16) (high : f < g * 16 ^ lead) (few : lead ≤ d) (some : 0 < g) where
  abbrev cut : ℕ
  cut = f * 16 ^ (d - lead) / g

  divisor : g * 16 ^ (64 + lead) ≡ g * 16 ^ lead * 16 ^ 64
  divisor = parted g lead 64 (64 + lead) (omega arith)

  dividend : f * 16 ^ (64 + d) ≡ f * 16 ^ (d - lead) * 16 ^ (64 + lead)
  dividend = parted f (d - lead) (64 + lead) (64 + d) (omega arith)

  of_fractions : Bounded d f (g * 16 ^ (64 + lead)) cut
  of_fractions =
      let r = cut_is (f * 16 ^ (d - lead)) g some in
      record {
        least = le_trans (le_of_eq divisor) (le_trans (mul-le-mul_right (16 ^ 64) low) (le_of_eq (mul_assoc f 16 (16 ^ 64))));
        most = lt_of_lt_of_le (mul-lt-mul_of_pos_right high (pos 64)) (le_of_eq (sym divisor));
        cut_least = le_trans (le_of_eq (sym (mul_assoc cut g (16 ^ (64 + lead))))) (le_trans (mul-le-mul_right (16 ^ (64 + lead)) r.0) (le_of_eq (sym dividend)));
        cut_most = lt_of_le_of_lt (le_of_eq dividend) (lt_of_lt_of_le (mul-lt-mul_of_pos_right r.1 (pos (64 + lead))) (le_of_eq (mul_assoc (suc cut) g (16 ^ (64 + lead)))));
      }

  left : f * 16 ^ (p + q) ≡ a * 16 ^ q * 16 ^ d
  left = parted f p q (p + q) (omega arith) ∙ ap (λ (z : ℕ). z * 16 ^ q) (sym ea) ∙ mul_right_comm a (16 ^ d) (16 ^ q)

  right : g * 16 ^ (64 + lead) * 16 ^ (p + q) ≡ 16 ^ (p + 64 + lead) * b * 16 ^ d
  right =
      mul_assoc g (16 ^ (64 + lead)) (16 ^ (p + q))
      ∙ ap (λ (z : ℕ). g * z) (same_power (64 + lead) (p + q) q (p + 64 + lead) (omega arith))
      ∙ sym (mul_assoc g (16 ^ q) (16 ^ (p + 64 + lead)))
      ∙ ap (λ (z : ℕ). z * 16 ^ (p + 64 + lead)) (sym eb)
      ∙ mul_comm (b * 16 ^ d) (16 ^ (p + 64 + lead))
      ∙ sym (mul_assoc (16 ^ (p + 64 + lead)) b (16 ^ d))

  pub placed : IsPlaced d a b (p + 64 + lead) q cut
  placed =
      let r = shrunk (16 ^ d) (pos d) (subst₂ (λ (x y : ℕ). Bounded d x y cut) left right (grown (16 ^ (p + q)) (pos (p + q)) of_fractions)) in
      record { characteristic = record { least = r.least; most = r.most }; fraction = record { least = r.cut_least; most = r.cut_most } }

-- the same place and fraction in other words
pub same_place : {d a b up down f up' f' : ℕ} → up ≡ up' → f ≡ f' → IsPlaced d a b up down f → IsPlaced d a b up' down f'
same_place {d} {a} {b} {up} {down} eu ef r = subst₂ (λ (u x : ℕ). IsPlaced d a b u down x) eu ef r

module _ {d a b up down f : ℕ} (r : IsPlaced d a b up down f) where
  module _ (h : down ≤ up) where
    raised : 16 ^ up * b ≡ 16 ^ (up - down) * b * 16 ^ down
    raised =
        ap (λ (z : ℕ). z * b) (ap (λ (z : ℕ). 16 ^ z) (omega arith) ∙ pow-add 16 (up - down) down) ∙ mul_right_comm (16 ^ (up - down)) (16 ^ down) b

    within : Bounded d a (16 ^ (up - down) * b) f
    within =
        shrunk (16 ^ down) (pos down)
        (subst (λ (x : ℕ). Bounded d (a * 16 ^ down) x f) raised
        (record { least = r.characteristic.least; most = r.characteristic.most; cut_least = r.fraction.least; cut_most = r.fraction.most }))

    its_characteristic : IsCharacteristic a b (up - down)
    its_characteristic = record { least = within.least; most = within.most }

    its_fraction : IsFraction d a b (up - down) f
    its_fraction = record { least = within.cut_least; most = within.cut_most }

  is_below_zero : up < down → IsBelowZero a b (down - up)
  is_below_zero h = record {
    least = le_of_mul-le-mul_right (le_trans (le_of_eq (mul_comm b (16 ^ up))) (le_trans r.characteristic.least (le_of_eq (lowered 65)))) (pos up);
    most = lt_of_mul-lt-mul_right (16 ^ up) (lt_of_le_of_lt (le_of_eq (sym (lowered 64))) (lt_of_lt_of_le r.characteristic.most (le_of_eq (mul_comm (16 ^ up) b))));
  }
    where
      lowered : (k : ℕ) → a * 16 ^ down * 16 ^ k ≡ a * 16 ^ (k + (down - up)) * 16 ^ up
      lowered k =
          mul_assoc a (16 ^ down) (16 ^ k)
          ∙ ap (λ (z : ℕ). a * z) (same_power down k (k + (down - up)) up (omega arith))
          ∙ sym (mul_assoc a (16 ^ (k + (down - up))) (16 ^ up))

-- so the result is known
module _ (d : ℕ) (mask : Bool) (sign a b : ℕ) (up down f : ℕ) (some : 0 < b) (r : IsPlaced d a b up down f) where
  pub below_limits : up < down → result_of d mask sign a b ≡ underflow mask
  below_limits h = (exact_result d mask sign a b some).underflows (down - up) (omega arith) (is_below_zero r h)

  pub above_limits : down ≤ up → 127 < up - down → result_of d mask sign a b ≡ stops 9
  above_limits h l = (exact_result d mask sign a b some).overflows (up - down) (its_characteristic r h) l

  pub within_limits : down ≤ up → up - down ≤ 127 → result_of d mask sign a b ≡ gives (record { sign = sign; characteristic = up - down; fraction = f })
  within_limits h l = (exact_result d mask sign a b some).cut (up - down) f (its_characteristic r h) l (its_fraction r h)
