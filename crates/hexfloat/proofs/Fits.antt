-- Words have parts in range, and so have the fraction of a ratio and a converted word.
use mathlib.Core.Path.{◌≡◌, refl, subst⁻¹}
use mathlib.Core.Logic.{⊎_elim}
use Prim.Native.Nat.{ℕ, ◌+◌, ◌*◌, ◌^◌, ◌≤◌, ◌<◌}
use native.Mathlib.Nat.{eq-zero-or-pos, ne_of_gt, le_of_eq, lt_of_lt_of_le, lt_of_le_of_lt, mul_assoc, mul-lt-mul_of_pos_right, mul_comm, lt_of_mul-lt-mul_right}
use native.Mathlib.Omega.{arith}
use borrow.Author.Tests.{eq-eqb, ne_eqb}
use lib.Pow.{pow-add}
use Rattle.hexfloat.specs.declared.addition.Sense.{Sense}
use Rattle.hexfloat.specs.declared.word.Parts.{Parts}
use Rattle.hexfloat.specs.declared.word.Width.{Width}
use Rattle.hexfloat.specs.declared.word.Width.TheVariants.{Short, Long}
use Rattle.hexfloat.specs.declared.word.Words.{Words}
use Rattle.hexfloat.specs.Word.{digits_of, parts_of, words_of, short_parts, short_words, inverted, true_zero}
use Rattle.hexfloat.specs.Add.{addend_of}
use Rattle.hexfloat.specs.Normal.{IsCharacteristic, IsFraction}
use Rattle.hexfloat.specs.Convert.{word_magnitude, float_parts}
use Rattle.hexfloat.specs.Operand.{Operand, Operands, Alignable}
use Rattle.hexfloat.proofs.Digits.{pos, mono, digits_le}
use Rattle.hexfloat.proofs.Converted.{magnitude_within, is as Float-is, characteristic as float-characteristic}
use Rattle.hexfloat.proofs.Ratio.{fraction_is}

pub short_fits : (w : ℕ) → w < 2 ^ 32 → Operand 6 (short_parts w)
short_fits w h = record { some = omega arith; most = omega arith; sign = omega arith; characteristic = omega arith; fraction = omega arith }

pub parts_fit : (w : Width) (a : Words) → a.high < 2 ^ 32 → a.low < 2 ^ 32 → Operand (digits_of w) (parts_of w a)
parts_fit Short a h l = short_fits a.high h
parts_fit Long a h l = record { some = omega arith; most = omega arith; sign = omega arith; characteristic = omega arith; fraction = omega arith }

inverted_fits : {d : ℕ} {p : Parts} → Operand d p → Operand d (inverted p)
inverted_fits o = record { some = o.some; most = o.most; sign = omega arith; characteristic = o.characteristic; fraction = o.fraction }

pub addend_fits : (s : Sense) {d : ℕ} {p : Parts} → Operand d p → Operand d (addend_of s p)
unfolding addend_of
addend_fits Sense.Plus o = o
addend_fits Sense.Minus o = inverted_fits o

-- six and 14 digits are in the range of the laws
pub width_fits : (w : Width) → (1 < digits_of w) × (digits_of w ≤ 14)
width_fits Short = (omega arith, omega arith)
width_fits Long = (omega arith, omega arith)

-- a word of 32 bits each
pub record Fits (a : Words) : Type 0 where
  pub high : a.high < 2 ^ 32
  pub low : a.low < 2 ^ 32

-- the parts of two words are in range, by whatever names
pub held : {x y : Parts} (w : Width) (a b : Words) → x ≡ parts_of w a → y ≡ parts_of w b → Fits a → Fits b → Operands (digits_of w) x y
held w a b ex ey fa fb = record {
  first = subst⁻¹ (Operand (digits_of w)) ex (parts_fit w a fa.high fa.low);
  second = subst⁻¹ (Operand (digits_of w)) ey (parts_fit w b fb.high fb.low);
}

-- of operands 14 digits hold every fraction
pub alignable : (g : ℕ) {d : ℕ} {x y : Parts} → g ≤ 2 → Operands d x y → Alignable g x y
alignable g h o = record {
  guards = h;
  first = lt_of_lt_of_le o.first.fraction (mono {j = 14} o.first.most);
  second = lt_of_lt_of_le o.second.fraction (mono {j = 14} o.second.most);
}

-- true zero has no bit in its words
pub no_bits : (w : Width) → words_of w true_zero ≡ short_words 0
no_bits Short = refl
no_bits Long = refl

-- a fraction of d digits is below 16^d
pub fraction_most : {d a b c f : ℕ} → IsCharacteristic a b c → IsFraction d a b c f → f < 16 ^ d
fraction_most {d} {a} {b} {c} {f} r s =
    lt_of_mul-lt-mul_right (16 ^ c * b)
    (lt_of_le_of_lt s.least
    (lt_of_le_of_lt (le_of_eq (split d))
    (lt_of_lt_of_le (mul-lt-mul_of_pos_right r.most (pos d)) (le_of_eq (mul_comm (16 ^ c * b) (16 ^ d))))))
  where
    split : (d : ℕ) → a * 16 ^ (64 + d) ≡ a * 16 ^ 64 * 16 ^ d
    split d = rw (pow-add 16 64 d, mul_assoc a (16 ^ 64) (16 ^ d))

pub float_fits : (w : ℕ) → w < 2 ^ 32 → Operand 6 (float_parts w)
unfolding float_parts
float_fits w h = ⊎_elim none some (eq-zero-or-pos (word_magnitude w))
  where
    few : word_magnitude w < 16 ^ 8
    few = omega (arith, magnitude_within w)

    none : word_magnitude w ≡ 0 → Operand 6 (float_parts w)
    none e = rw (eq-eqb (word_magnitude w) 0 e) (record { some = omega arith; most = omega arith; sign = omega arith; characteristic = omega arith; fraction = pos 6 })

    some : 0 < word_magnitude w → Operand 6 (float_parts w)
    some l =
        rw (ne_eqb (word_magnitude w) 0 (ne_of_gt l))
        (record {
          some = omega arith;
          most = omega arith;
          sign = omega arith;
          characteristic = omega (arith, float-characteristic (word_magnitude w) l, digits_le (word_magnitude w) 8 few);
          fraction = fraction_most (rw (float-characteristic (word_magnitude w) l) (Float-is (word_magnitude w) l)) (fraction_is 6 (pos 4));
        })
