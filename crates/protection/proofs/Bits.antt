-- Bits of a byte: the bit that was put, and the others, which stay.
use Prim.Native.Nat.{ℕ, ◌+◌, ◌-◌, ◌*◌, ◌/◌, ◌%◌, ◌^◌, ◌<◌, ◌≤◌}
use mathlib.Core.Path.{◌≡◌, refl, sym, ap, ◌∙◌}
use mathlib.Core.Bool.{Bool, true, false}
use lib.Dec.{eqb, ltb}
use borrow.Author.Tests.{ltb-true, ltb-false}
use native.Mathlib.Nat.{zero-div, le-add_right, mod-lt, mod-eq_of_lt, lt_of_lt_of_le, lt_of_le_of_lt, le_of_eq}
use native.Mathlib.Omega.{arith}
use lib.Arith.{digits_lt}
use lib.Pow.{pow_pos, pow-add, shr-shr, shr_lt, split, high, low, field, mod-mod-pow}
use Rattle.protection.specs.Bits.{bit_of, with_bit}

-- the bits from k on, and those below it
module _ (k v b : ℕ) where
  from : with_bit k v b / 2 ^ k ≡ b / 2 ^ (k + 1) * 2 + v
  unfolding with_bit
  from = high (b / 2 ^ (k + 1) * 2 + v) k (mod-lt b (pow_pos k))

  below : with_bit k v b % 2 ^ k ≡ b % 2 ^ k
  unfolding with_bit
  below = low (b / 2 ^ (k + 1) * 2 + v) k (mod-lt b (pow_pos k))

  module _ (digit : v < 2) where
    pub bit_here : bit_of k (with_bit k v b) ≡ v
    bit_here = ap (λ (x : ℕ). x % 2) from ∙ omega arith

    -- a higher bit
    bit_above : (i : ℕ) → bit_of (k + 1 + i) (with_bit k v b) ≡ bit_of (k + 1 + i) b
    bit_above i = ap (λ (x : ℕ). x % 2) (sym (shr-shr (with_bit k v b) (k + 1) i) ∙ ap (λ (x : ℕ). x / 2 ^ i) same ∙ shr-shr b (k + 1) i)
      where
        same : with_bit k v b / 2 ^ (k + 1) ≡ b / 2 ^ (k + 1)
        same = sym (shr-shr (with_bit k v b) k 1) ∙ ap (λ (x : ℕ). x / 2) from ∙ omega arith

    -- the byte stays a byte
    pub bit_byte : k < 8 → b < 256 → with_bit k v b < 256
    unfolding with_bit
    bit_byte h s =
        let e : 7 - k + (k + 1) ≡ 8 = omega arith in
        let f : 7 - k + 1 + k ≡ 8 = omega arith in
        let top : b / 2 ^ (k + 1) < 2 ^ (7 - k) = shr_lt (7 - k) (k + 1) (lt_of_lt_of_le s (le_of_eq (ap (λ (x : ℕ). 2 ^ x) (sym e)))) in
        let more : b / 2 ^ (k + 1) * 2 + v < 2 ^ (7 - k) * 2 = digits_lt top digit in
        lt_of_lt_of_le (digits_lt (lt_of_lt_of_le more (le_of_eq (sym (pow-add 2 (7 - k) 1)))) (mod-lt b (pow_pos k)))
        (le_of_eq (sym (pow-add 2 (7 - k + 1) k) ∙ ap (λ (x : ℕ). 2 ^ x) f))

-- a lower bit
bit_under : (j i v b : ℕ) → bit_of j (with_bit (i + (1 + j)) v b) ≡ bit_of j b
bit_under j i v b =
    sym (field (with_bit (i + (1 + j)) v b) 1 j) ∙ ap (λ (x : ℕ). x / 2 ^ j) same ∙ field b 1 j
  where
    same : with_bit (i + (1 + j)) v b % 2 ^ (1 + j) ≡ b % 2 ^ (1 + j)
    same =
        sym (mod-mod-pow (with_bit (i + (1 + j)) v b) i (1 + j))
        ∙ ap (λ (x : ℕ). x % 2 ^ (1 + j)) (below (i + (1 + j)) v b)
        ∙ mod-mod-pow b i (1 + j)

pub bit_other : (j k v b : ℕ) → v < 2 → (j ≡ k → ⊥) → bit_of j (with_bit k v b) ≡ bit_of j b
bit_other j k v b digit differs = cases (ltb j k) refl
  where
    higher : (i : ℕ) → j ≡ k + 1 + i → bit_of j (with_bit k v b) ≡ bit_of j b
    higher i e = rw e (bit_above k v b digit i)

    lower : (i : ℕ) → k ≡ i + (1 + j) → bit_of j (with_bit k v b) ≡ bit_of j b
    lower i e = rw e (bit_under j i v b)

    cases : (t : Bool) → ltb j k ≡ t → bit_of j (with_bit k v b) ≡ bit_of j b
    cases true t = lower (k - (1 + j)) (omega (arith, ltb-true j k t))
    cases false t = higher (j - (k + 1)) (past (ltb-false j k t))
      where
        past : k ≤ j → j ≡ k + 1 + (j - (k + 1))
        past l = omega (arith, differs)

-- the same from the bits from k on, as words of 32 bits have it: none is lost
abbrev pub rejoined_from : ℕ → ℕ → ℕ → ℕ
rejoined_from k v b = (b / 2 ^ k / 2 * 2 + v) * 2 ^ k % 2 ^ 32 + (b - b / 2 ^ k * 2 ^ k % 2 ^ 32)

module _ (k b : ℕ) (byte : b < 256) where
  pub high_back : b / 2 ^ k * 2 ^ k % 2 ^ 32 ≡ b / 2 ^ k * 2 ^ k
  high_back = mod-eq_of_lt (lt_of_le_of_lt (omega (arith, split b k)) (lt_of_lt_of_le byte (omega arith)))

  pub rejoined : (v : ℕ) → v < 2 → k < 8 → rejoined_from k v b ≡ with_bit k v b
  unfolding with_bit
  rejoined v digit place =
      let top = b / 2 ^ (k + 1) * 2 + v in
      let whole : top * 2 ^ k < 2 ^ 32 = lt_of_le_of_lt (le-add_right (top * 2 ^ k) (b % 2 ^ k)) (lt_of_lt_of_le (bit_byte k v b digit place byte) (omega arith)) in
      rw (high_back, shr-shr b k 1, mod-eq_of_lt whole) (omega (arith, split b k))

-- no bit of 0 is set
pub no_bits : (a : ℕ) → eqb (bit_of (a % 8) 0) 1 ≡ false
no_bits a = rw (zero-div (2 ^ (a % 8))) refl
