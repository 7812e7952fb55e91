-- Laws of a fraction of d digits moved left by its leading zero digits.
use mathlib.Core.Path.{◌≡◌, sym, ap, ◌∙◌}
use Prim.Native.Nat.{ℕ, ◌+◌, ◌-◌, ◌*◌, ◌/◌, ◌^◌, ◌≤◌, ◌<◌}
use native.Mathlib.Nat.{le_trans, le_of_eq, lt_of_lt_of_le, mul-lt-mul_of_pos_right, mul-le-mul_right, mul_assoc, mul_right_comm, mul-pos, zero-mul, pos_of_ne-zero}
use native.Mathlib.Omega.{arith}
use lib.Pow.{pow-add}
use lib.Count.{count_leading_zeros}
use Rattle.hexfloat.specs.declared.normal.Normal.{Normal}
use Rattle.hexfloat.specs.declared.word.Parts.{Parts}
use Rattle.hexfloat.specs.Normal.{digits}
use Rattle.hexfloat.specs.Word.{magnitude}
use Rattle.hexfloat.specs.Operand.{Operand, normalised}
use Rattle.hexfloat.proofs.Digits.{pos, mono, digits_are, digits_le, leading_digits, same_power}

-- the leading zero bits of an operand's fraction in a u64, over four
pub leading_zeros : {d : ℕ} {p : Parts} → Operand d p → count_leading_zeros 64 p.fraction / 4 + digits p.fraction ≡ 16
leading_zeros {d} {p} o = leading_digits 16 p.fraction (lt_of_lt_of_le o.fraction (mono {j = 16} (omega arith)))

pub digits_few : {d : ℕ} {p : Parts} → Operand d p → digits p.fraction ≤ d
digits_few {d} {p} o = digits_le p.fraction d o.fraction

module _ (d f : ℕ) (h : digits f ≤ d) where
  split : 16 ^ digits f * 16 ^ (d - digits f) ≡ 16 ^ d
  split = sym (pow-add 16 (digits f) (d - digits f)) ∙ ap (λ (x : ℕ). 16 ^ x) (omega arith)

  pub moved_most : f * 16 ^ (d - digits f) < 16 ^ d
  moved_most = lt_of_lt_of_le (mul-lt-mul_of_pos_right (digits_are f).most (pos (d - digits f))) (le_of_eq split)

  pub moved_least : 0 < f → 16 ^ d ≤ f * 16 ^ (d - digits f) * 16
  moved_least p =
      le_trans (le_of_eq (sym split))
      (le_trans (mul-le-mul_right (16 ^ (d - digits f)) ((digits_are f).least p)) (le_of_eq (mul_right_comm f 16 (16 ^ (d - digits f)))))

module _ {d : ℕ} {p : Parts} (o : Operand d p) where
  pub normal_most : (normalised d p).fraction < 16 ^ d
  unfolding normalised
  normal_most = moved_most d p.fraction (digits_few o)

  pub normal_least : 0 < p.fraction → 16 ^ d ≤ (normalised d p).fraction * 16
  unfolding normalised
  normal_least h = moved_least d p.fraction (digits_few o) h

  pub place_most : (normalised d p).place ≤ 141
  unfolding normalised
  place_most = omega (arith, digits_few o, o.characteristic, o.most)

  -- the value is kept
  pub normal_exact : magnitude d p * 16 ^ d ≡ (normalised d p).fraction * 16 ^ (normalised d p).place
  unfolding normalised magnitude
  normal_exact =
      mul_assoc p.fraction (16 ^ (p.characteristic + (14 - d))) (16 ^ d)
      ∙ ap (λ (x : ℕ). p.fraction * x)
      (same_power (p.characteristic + (14 - d)) d (d - digits p.fraction) (p.characteristic + 14 + digits p.fraction - d) (omega (arith, digits_few o, o.most)))
      ∙ sym (mul_assoc p.fraction (16 ^ (d - digits p.fraction)) (16 ^ (p.characteristic + 14 + digits p.fraction - d)))

  pub magnitude_positive : 0 < p.fraction → 0 < magnitude d p
  unfolding magnitude
  magnitude_positive h = mul-pos h (pos (p.characteristic + (14 - d)))

pub magnitude-zero : (d : ℕ) (p : Parts) → p.fraction ≡ 0 → magnitude d p ≡ 0
unfolding magnitude
magnitude-zero d p e = ap (λ (x : ℕ). x * 16 ^ (p.characteristic + (14 - d))) e ∙ zero-mul (16 ^ (p.characteristic + (14 - d)))

-- a normalised operand's place and fraction
pub record Bounds (d : ℕ) (p : Parts) (n : Normal) : Type 0 where
  pub place : n.place ≤ 141
  pub most : n.fraction < 16 ^ d
  pub least : 16 ^ d ≤ n.fraction * 16
  pub exact : magnitude d p * 16 ^ d ≡ n.fraction * 16 ^ n.place
  pub positive : 0 < magnitude d p

pub bounds : {d : ℕ} {p : Parts} {n : Normal} → Operand d p → (p.fraction ≡ 0 → ⊥) → n ≡ normalised d p → Bounds d p n
bounds o ne e =
    rw e
    (record {
      place = place_most o;
      most = normal_most o;
      least = normal_least o (pos_of_ne-zero ne);
      exact = normal_exact o;
      positive = magnitude_positive o (pos_of_ne-zero ne);
    })
