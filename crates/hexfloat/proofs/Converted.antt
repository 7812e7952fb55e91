-- Laws of the conversions: a short number's magnitude times 65,536 is its fraction moved left or right, and a word over 65,536 has the digits of the word.
use mathlib.Core.Path.{◌≡◌, refl, sym, ap, ap₂, ◌∙◌}
use mathlib.Core.Logic.{⊎_elim}
use Prim.Native.Nat.{ℕ, zero, suc, ◌+◌, ◌-◌, ◌*◌, ◌/◌, ◌^◌, ◌≤◌, ◌<◌}
use native.Mathlib.Nat.{le_trans, le_of_eq, lt_of_lt_of_le, lt_of_le_of_lt, zero-mul, zero-div, one-mul, mul_assoc, mul_comm, mul_right_comm, mul-le-mul_right, mul-lt-mul_of_pos_right, mul-div_cancel, mul-div-mul_right, div-eq_of_lt}
use native.Mathlib.Omega.{arith}
use borrow.Author.Tests.{lt-ltb, le-ltb, ne_eqb}
use lib.Pow.{pow-add}
use Rattle.hexfloat.specs.declared.word.Parts.{Parts}
use Rattle.hexfloat.specs.Answer.{gives, stops}
use Rattle.hexfloat.specs.Word.{short_parts, magnitude}
use Rattle.hexfloat.specs.Normal.{digits, characteristic_of, fraction_of, IsCharacteristic}
use Rattle.hexfloat.specs.Condition.{condition_by}
use Rattle.hexfloat.specs.Convert.{fixed_magnitude, signed_word, fixed_coded, word_magnitude, to_fixed}
use Rattle.hexfloat.proofs.Digits.{pos, mono, digits_are}
use Rattle.hexfloat.proofs.Ratio.{characteristic_unique}
use Rattle.hexfloat.proofs.Trichotomy.{below_or_not}

module _ (p : Parts) where
  pub fixed_left : 66 ≤ p.characteristic → fixed_magnitude p ≡ p.fraction * 16 ^ (p.characteristic - 66)
  unfolding fixed_magnitude magnitude
  fixed_left h =
      ap (λ (z : ℕ). z / 16 ^ 74)
      (ap (λ (z : ℕ). p.fraction * 16 ^ z) (index h) ∙ ap (λ (z : ℕ). p.fraction * z) (pow-add 16 (p.characteristic - 66) 74) ∙ sym (mul_assoc p.fraction (16 ^ (p.characteristic - 66)) (16 ^ 74)))
      ∙ mul-div_cancel (p.fraction * 16 ^ (p.characteristic - 66)) (pos 74)
    where
      index : 66 ≤ p.characteristic → p.characteristic + 8 ≡ p.characteristic - 66 + 74
      index l = omega arith

  pub fixed_right : p.characteristic ≤ 66 → fixed_magnitude p ≡ p.fraction / 16 ^ (66 - p.characteristic)
  unfolding fixed_magnitude magnitude
  fixed_right h =
      ap (λ (z : ℕ). p.fraction * 16 ^ (p.characteristic + 8) / z) (ap (λ (z : ℕ). 16 ^ z) (index h) ∙ pow-add 16 (66 - p.characteristic) (p.characteristic + 8))
      ∙ mul-div-mul_right p.fraction (16 ^ (66 - p.characteristic)) (pos (p.characteristic + 8))
    where
      index : p.characteristic ≤ 66 → 74 ≡ 66 - p.characteristic + (p.characteristic + 8)
      index l = omega arith

  pub fixed_out : p.characteristic ≤ 60 → p.fraction < 16 ^ 6 → fixed_magnitude p ≡ 0
  fixed_out h l = fixed_right (omega arith) ∙ div-eq_of_lt (lt_of_lt_of_le l (mono {i = 6} {j = 66 - p.characteristic} (omega arith)))

  pub fixed_zero : p.fraction ≡ 0 → fixed_magnitude p ≡ 0
  unfolding fixed_magnitude magnitude
  fixed_zero e = ap (λ (z : ℕ). z * 16 ^ (p.characteristic + 8) / 16 ^ 74) e ∙ ap (λ (z : ℕ). z / 16 ^ 74) (zero-mul (16 ^ (p.characteristic + 8))) ∙ zero-div (16 ^ 74)

  pub fixed_large : 73 < p.characteristic → 0 < p.fraction → 2 ^ 32 ≤ fixed_magnitude p
  fixed_large h l =
      rw (fixed_left (omega arith))
      (le_trans (mono {i = 8} {j = p.characteristic - 66} (omega arith)) (le_trans (le_of_eq (sym (one-mul (16 ^ (p.characteristic - 66))))) (mul-le-mul_right (16 ^ (p.characteristic - 66)) l)))

pub overflows : (w : ℕ) → 2 ^ 31 + (short_parts w).sign ≤ fixed_magnitude (short_parts w) → to_fixed w ≡ stops 11
unfolding to_fixed
overflows w h = rw (le-ltb (fixed_magnitude (short_parts w)) (2 ^ 31 + (short_parts w).sign) h)

pub fixed : (w : ℕ) → fixed_magnitude (short_parts w) < 2 ^ 31 + (short_parts w).sign → to_fixed w ≡ gives (fixed_coded (signed_word (short_parts w).sign (fixed_magnitude (short_parts w))))
unfolding to_fixed
fixed w h = rw (lt-ltb (fixed_magnitude (short_parts w)) (2 ^ 31 + (short_parts w).sign) h)

pub word-zero : (s : ℕ) → signed_word s 0 ≡ 0
word-zero zero = refl
word-zero (suc s) = rw (ne_eqb (suc s) 0 (λ e. omega arith))

pub fixed_of_zero : (w : ℕ) → (short_parts w).fraction ≡ 0 → to_fixed w ≡ gives (record { word = 0; condition = 0 })
unfolding condition_by
fixed_of_zero w e =
    let z : fixed_magnitude (short_parts w) ≡ 0 = fixed_zero (short_parts w) e in
    fixed w (lt_of_le_of_lt (le_of_eq z) (omega arith))
    ∙ ap (λ (m : ℕ). gives (fixed_coded m)) (ap (signed_word (short_parts w).sign) z ∙ word-zero (short_parts w).sign)

-- the magnitude of a word
module _ (w : ℕ) where
  pub positive_word : w < 2 ^ 31 → word_magnitude w ≡ w
  positive_word l = rw (lt-ltb w (2 ^ 31) l)

  pub negative_word : 2 ^ 31 ≤ w → word_magnitude w ≡ 2 ^ 32 - w
  negative_word l = rw (le-ltb w (2 ^ 31) l)

  -- it is in the range of the word's sign, and the word has 32 bits unless it is zero
  pub magnitude_within : word_magnitude w < 2 ^ 31 + w / 2 ^ 31
  magnitude_within = ⊎_elim (λ l. rw (positive_word l) (omega arith)) (λ l. rw (negative_word l) (omega arith)) (below_or_not w (2 ^ 31))

  pub some_bits : 0 < word_magnitude w → w < 2 ^ 32
  some_bits h = ⊎_elim (λ l. omega arith) (λ l. let some : 0 < 2 ^ 32 - w = rw (negative_word l) at h in omega arith) (below_or_not w (2 ^ 31))

module _ (m : ℕ) (h : 0 < m) where
  power : 16 ^ (60 + digits m) * 65536 ≡ 16 ^ digits m * 16 ^ 64
  power = ap (λ (z : ℕ). z * 65536) (pow-add 16 60 (digits m)) ∙ mul_right_comm (16 ^ 60) (16 ^ digits m) 65536 ∙ mul_comm (16 ^ 60 * 65536) (16 ^ digits m)

  pub is : IsCharacteristic m 65536 (60 + digits m)
  is = record {
    least = le_trans (le_of_eq power) (le_trans (mul-le-mul_right (16 ^ 64) ((digits_are m).least h)) (le_of_eq (mul_assoc m 16 (16 ^ 64))));
    most = lt_of_lt_of_le (mul-lt-mul_of_pos_right (digits_are m).most (pos 64)) (le_of_eq (sym power));
  }

  pub characteristic : characteristic_of m 65536 ≡ 60 + digits m
  characteristic = characteristic_unique (pos 4) is

  -- the first six digits ..
  pub first_six : fraction_of 6 m 65536 ≡ m * 16 ^ 6 / 16 ^ digits m
  unfolding fraction_of
  first_six =
      ap (λ (c : ℕ). m * 16 ^ 70 / (16 ^ c * 65536)) characteristic
      ∙ ap₂ (λ (u v : ℕ). u / v) (sym (mul_assoc m (16 ^ 6) (16 ^ 64))) power
      ∙ mul-div-mul_right (m * 16 ^ 6) (16 ^ digits m) (pos 64)

  -- .. are, of m moved to eight, all but the last two
  pub fraction : (z : ℕ) → z + digits m ≡ 8 → fraction_of 6 m 65536 ≡ m * 16 ^ z / 256
  fraction z e =
      first_six
      ∙ sym (mul-div-mul_right (m * 16 ^ 6) (16 ^ digits m) (pos 2))
      ∙ ap₂ (λ (u v : ℕ). u / v) (mul_assoc m (16 ^ 6) (16 ^ 2) ∙ ap (λ (k : ℕ). m * k) (ap (λ (k : ℕ). 16 ^ k) (sym e) ∙ pow-add 16 z (digits m)) ∙ sym (mul_assoc m (16 ^ z) (16 ^ digits m))) (mul_comm (16 ^ digits m) (16 ^ 2))
      ∙ mul-div-mul_right (m * 16 ^ z) (16 ^ 2) (pos (digits m))
