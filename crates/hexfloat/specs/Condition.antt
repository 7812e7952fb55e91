-- Condition codes: 0, 1 and 3 are the manual's 00, 01 and 11 (8.7). In this crate a condition is such a code.
use Rattle.std.specs.Prelude.{ℕ, ◌^◌, Bool, cond, ltb, eqb}
use Rattle.hexfloat.specs.declared.word.Parts.{Parts}
use Rattle.hexfloat.specs.declared.word.Width.{Width}
use Rattle.hexfloat.specs.declared.word.Words.{Words}
use Rattle.hexfloat.specs.Word.{short_parts, parts_of, short_word, inverted}

-- 8.7: the conditions that are set; state 10 never is
pub data IsCondition : ℕ → Type 0 where
  zero : IsCondition 0
  greater : IsCondition 1
  less : IsCondition 3

-- 8.7: 0 for zero or equal; else 1 for positive or first greater, and 3 for negative or first less
unfoldable pub condition_by : Bool → Bool → ℕ
condition_by equal above = cond equal 0 (cond above 1 3)

-- 8.14, 8.17 to 8.19: by the fraction, and then by the sign
abbrev pub condition_of : Parts → ℕ
condition_of p = condition_by (eqb p.fraction 0) (eqb p.sign 0)

unfoldable pub operand_condition : Width → Words → ℕ
operand_condition w a = condition_of (parts_of w a)

-- a signed number in two's complement, whose negative half begins at `half`
abbrev pub signed_condition : ℕ → ℕ → ℕ
signed_condition half n = condition_by (eqb n 0) (ltb n half)

-- 4.14
unfoldable pub general_condition : ℕ → ℕ
general_condition w = signed_condition (2 ^ 31) w

-- 8.19: the sign bit inverted; a zero fraction gives true zero
unfoldable pub complement : ℕ → ℕ
complement w =
    let p = short_parts w in
    cond (eqb p.fraction 0) 0 (short_word (inverted p))
