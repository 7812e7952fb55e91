-- Compares (8.11, 8.12; document 01, 'Orders'; document 02, Job 4): short operands by exact value, long ones by their aligned fractions.
use Rattle.std.specs.Prelude.{ℕ, ◌+◌, cond, ltb, eqb}
use Rattle.hexfloat.specs.declared.word.Parts.{Parts}
use Rattle.hexfloat.specs.declared.word.Width.{Width}
use Rattle.hexfloat.specs.declared.word.Width.TheVariants.{Short, Long}
use Rattle.hexfloat.specs.declared.word.Words.{Words}
use Rattle.hexfloat.specs.Align.{common_characteristic, aligned}
use Rattle.hexfloat.specs.Condition.{condition_by}
use Rattle.hexfloat.specs.Word.{parts_of, magnitude}

-- x against y
abbrev pub rank_condition : ℕ → ℕ → ℕ
rank_condition x y = condition_by (eqb x y) (ltb y x)

-- of a sign and a magnitude the part that stands above zero, and the part below it
abbrev pub above : ℕ → ℕ → ℕ
above sign m = cond (eqb sign 0) m 0

abbrev pub below : ℕ → ℕ → ℕ
below sign m = cond (eqb sign 0) 0 m

-- sign s and magnitude m against sign t and magnitude n, with the negative parts brought over so that all numbers are whole
abbrev pub signed_rank : ℕ → ℕ → ℕ → ℕ → ℕ
signed_rank s m t n = rank_condition (above s m + below t n) (above t n + below s m)

-- document 01, 'Orders': x against y by exact signed value, of d digits each
unfoldable pub compared : ℕ → Parts → Parts → ℕ
compared d x y = signed_rank x.sign (magnitude d x) y.sign (magnitude d y)

-- 8.11, note: x against y by their fractions after prealignment, with g guard digits. Neither is normalised first, and a zero fraction keeps its
-- characteristic.
unfoldable pub compared_aligned : ℕ → Parts → Parts → ℕ
compared_aligned g x y =
    let c = common_characteristic x y in
    signed_rank x.sign (aligned g c x) y.sign (aligned g c y)

-- 8.12: short operands by exact value; 8.11, note: long ones in 64 fractional bits, which are 14 digits and two guard digits
abbrev pub compared_by : Width → Parts → Parts → ℕ
compared_by Short x y = compared 6 x y
compared_by Long x y = compared_aligned 2 x y

unfoldable pub compared_words : Width → Words → Words → ℕ
compared_words w a b = compared_by w (parts_of w a) (parts_of w b)
