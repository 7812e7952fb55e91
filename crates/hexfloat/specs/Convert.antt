-- Conversions between floating and fixed point (8.13, 8.14; document 01, 'Orders'). A general word is a signed number over 65,536.
use Rattle.std.specs.Prelude.{Option, Some, None, ℕ, ◌+◌, ◌-◌, ◌/◌, ◌%◌, ◌^◌, cond, ltb, eqb}
use Rattle.hexfloat.specs.declared.word.Parts.{Parts}
use Rattle.hexfloat.specs.declared.word.Coded.{Coded}
use Rattle.hexfloat.specs.Answer.{Answer, gives, stops}
use Rattle.hexfloat.specs.Word.{short_parts, short_word, true_zero, magnitude}
use Rattle.hexfloat.specs.Normal.{characteristic_of, fraction_of}
use Rattle.hexfloat.specs.Condition.{condition_of, signed_condition}

-- what the code's answer says: convert overflow is 11
abbrev pub says_fixed : Option Coded → Answer Coded
says_fixed (Some c) = gives c
says_fixed None = stops 11

-- the exact magnitude of a short number times 65,536, cut toward zero: a magnitude stands times 16^78, and 16^78 / 65,536 is 16^74
unfoldable pub fixed_magnitude : Parts → ℕ
fixed_magnitude p = magnitude 6 p / 16 ^ 74

-- the two's complement word of a sign and a magnitude
abbrev pub signed_word : ℕ → ℕ → ℕ
signed_word s m = cond (eqb s 0) m ((2 ^ 32 - m) % 2 ^ 32)

-- 8.13: a word, with the condition code of its signed upper halfword
abbrev pub fixed_coded : ℕ → Coded
fixed_coded w = record { word = w; condition = signed_condition (2 ^ 15) (w / 2 ^ 16) }

-- 8.13: the word, where it is in the range of a signed word
unfoldable pub to_fixed : ℕ → Answer Coded
to_fixed w =
    let p = short_parts w in
    let m = fixed_magnitude p in
    cond (ltb m (2 ^ 31 + p.sign)) (gives (fixed_coded (signed_word p.sign m))) (stops 11)

-- the magnitude of a signed word
abbrev pub word_magnitude : ℕ → ℕ
word_magnitude w = cond (ltb w (2 ^ 31)) w (2 ^ 32 - w)

-- 8.14: the word over 65,536, normalised and cut to six digits; 0 gives true zero
unfoldable pub float_parts : ℕ → Parts
float_parts w =
    let m = word_magnitude w in
    cond (eqb m 0) true_zero (record { sign = w / 2 ^ 31; characteristic = characteristic_of m 65536; fraction = fraction_of 6 m 65536 })

unfoldable pub to_float : ℕ → Coded
to_float w = record { word = short_word (float_parts w); condition = condition_of (float_parts w) }
