-- Divides (8.15, 8.16; document 01, 'Divide').
use Rattle.std.specs.Prelude.{ℕ, Bool, cond, eqb}
use Rattle.hexfloat.specs.declared.word.Parts.{Parts}
use Rattle.hexfloat.specs.declared.word.Width.{Width}
use Rattle.hexfloat.specs.declared.word.Words.{Words}
use Rattle.hexfloat.specs.Answer.{Answer, stops, mapped}
use Rattle.hexfloat.specs.Word.{digits_of, parts_of, words_of, magnitude}
use Rattle.hexfloat.specs.Result.{sign_by_algebra, result_of}

-- The quotient of two numbers of d digits: a zero divisor stops, also for a zero dividend; else the result is the ratio of the magnitudes, its sign by
-- algebra.
unfoldable pub quotient : ℕ → Bool → Parts → Parts → Answer Parts
quotient d mask x y = cond (eqb (magnitude d y) 0) (stops 8) (result_of d mask (sign_by_algebra x y) (magnitude d x) (magnitude d y))

-- 8.16 short, 8.15 long
unfoldable pub quotient_words : Width → Bool → Words → Words → Answer Words
quotient_words w mask a b = mapped (words_of w) (quotient (digits_of w) mask (parts_of w a) (parts_of w b))
