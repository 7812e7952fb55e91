-- Whole numbers of which the first d digits are kept: where such a number stands, and how the code finds its first digits.
use mathlib.Core.Path.{◌≡◌, sym, ap, ◌∙◌, subst₂}
use Prim.Native.Nat.{ℕ, suc, ◌+◌, ◌-◌, ◌*◌, ◌/◌, ◌%◌, ◌^◌, ◌≤◌, ◌<◌}
use native.Mathlib.Nat.{le_trans, le_of_eq, lt_of_lt_of_le, lt_of_le_of_lt, mul-le-mul_right, mul-lt-mul_of_pos_right, lt_of_mul-lt-mul_right, le_of_mul-le-mul_right, mul_assoc, mul_comm}
use native.Mathlib.Omega.{arith}
use lib.Pow.{pow-add}
use Rattle.hexfloat.specs.Normal.{digits}
use Rattle.hexfloat.specs.Operand.{IsPlaced, first_digits}
use Rattle.hexfloat.proofs.Digits.{pos, four_bits, digits_are, moved_left, same_power}
use Rattle.hexfloat.proofs.Normalised.{moved_most}
use Rattle.hexfloat.proofs.Placed.{Bounded, grown, parted}
use Rattle.hexfloat.proofs.Ratio.{cut_is}

-- a factor's power in two parts, and in two others
traded : (f i j k l : ℕ) → i + j ≡ k + l → f * 16 ^ i * 16 ^ j ≡ f * 16 ^ k * 16 ^ l
traded f i j k l e =
    mul_assoc f (16 ^ i) (16 ^ j) ∙ ap (λ (z : ℕ). f * z) (same_power i j k l e) ∙ sym (mul_assoc f (16 ^ k) (16 ^ l))

-- a number of at most 16 digits in a u64, moved left by its leading zero digits and then right to d digits
pub moved_right : (d k s zeros : ℕ) → k ≡ d → zeros + digits s ≡ 16 → s * 2 ^ (4 * zeros) % 2 ^ 64 / 2 ^ (4 * (16 - k)) ≡ first_digits d s
moved_right d k s zeros e h =
    let index : zeros ≡ 16 - digits s = omega arith in
    rw (e, index, four_bits (16 - d)) (ap (λ (x : ℕ). x / 16 ^ (16 - d)) (moved_left {w = 2 ^ 64} s (16 - digits s) (moved_most 16 s (omega arith))))

-- A whole number of k digits, of which the first d are kept.
module _ (d s k i j : ℕ) (least : 16 ^ k ≤ s * 16) (most : s < 16 ^ k) (cut : i + k ≡ j + d) where
  abbrev kept : ℕ
  kept = s * 16 ^ i / 16 ^ j

  -- its characteristic is 64 and as many as it has digits
  of_whole : Bounded d s (16 ^ (64 + k)) kept
  of_whole =
      let r = cut_is (s * 16 ^ i) (16 ^ j) (pos j) in
      record {
        least = le_trans (le_of_eq first) (le_trans (mul-le-mul_right (16 ^ 64) least) (le_of_eq (mul_assoc s 16 (16 ^ 64))));
        most = lt_of_lt_of_le (mul-lt-mul_of_pos_right most (pos 64)) (le_of_eq (sym first));
        cut_least = le_of_mul-le-mul_right (le_trans (le_of_eq (traded kept (64 + k) j j (64 + k) (omega arith))) (le_trans (mul-le-mul_right (16 ^ (64 + k)) r.0) (le_of_eq dividend))) (pos j);
        cut_most = lt_of_mul-lt-mul_right (16 ^ j)
            (lt_of_le_of_lt (le_of_eq (sym dividend))
            (lt_of_lt_of_le (mul-lt-mul_of_pos_right r.1 (pos (64 + k))) (le_of_eq (traded (suc kept) j (64 + k) (64 + k) j (omega arith)))));
      }
    where
      first : 16 ^ (64 + k) ≡ 16 ^ k * 16 ^ 64
      first = pow-add 16 64 k ∙ mul_comm (16 ^ 64) (16 ^ k)

      dividend : s * 16 ^ i * 16 ^ (64 + k) ≡ s * 16 ^ (64 + d) * 16 ^ j
      dividend = traded s i (64 + k) (64 + d) j (omega arith)

  -- so this is its place at the characteristic c, in units of 16^q
  pub whole_placed : (c q up down : ℕ) → up + q ≡ 64 + k + (c + down) → IsPlaced d (s * 16 ^ c) (16 ^ q) up down kept
  whole_placed c q up down e =
      let r
      = subst₂ (λ (x y : ℕ). Bounded d x y kept) (parted s c down (c + down) (omega arith)) (sym (same_power up q (64 + k) (c + down) e))
      (grown (16 ^ (c + down)) (pos (c + down)) of_whole) in
      record { characteristic = record { least = r.least; most = r.most }; fraction = record { least = r.cut_least; most = r.cut_most } }

-- the same of a number of at most 16 digits, whose first digits the code finds
pub first_digits-placed : (d s c q up down : ℕ) → 0 < s → digits s ≤ 16 → d ≤ 16 → up + q ≡ 64 + digits s + (c + down)
    → IsPlaced d (s * 16 ^ c) (16 ^ q) up down (first_digits d s)
first_digits-placed d s c q up down some few fits e =
    whole_placed d s (digits s) (16 - digits s) (16 - d) ((digits_are s).least some) (digits_are s).most (omega arith) c q up down e
