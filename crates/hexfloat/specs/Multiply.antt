-- Products (8.24, 8.25): the exact product of the two values, normalised and cut toward zero.
use Rattle.std.specs.Prelude.{ℕ, ◌*◌, ◌^◌, Bool}
use Rattle.hexfloat.specs.declared.word.Parts.{Parts}
use Rattle.hexfloat.specs.declared.word.Width.{Width}
use Rattle.hexfloat.specs.declared.word.Words.{Words}
use Rattle.hexfloat.specs.Answer.{Answer, mapped}
use Rattle.hexfloat.specs.Result.{sign_by_algebra, result_of}
use Rattle.hexfloat.specs.Word.{digits_of, parts_of, words_of, magnitude}

-- The product of two numbers of d digits as a result of e digits. A magnitude stands times 16^78, so the product of two stands times 16^156. A zero
-- fraction of either makes the product zero, and so true zero.
unfoldable pub product : ℕ → ℕ → Bool → Parts → Parts → Answer Parts
product d e mask x y = result_of e mask (sign_by_algebra x y) (magnitude d x * magnitude d y) (16 ^ 156)

-- 8.25: short operands, whose product has the 14 digits of the long format or, in one register, the first six of them; 8.24: long operands, 14 digits
unfoldable pub product_words : Width → Width → Bool → Words → Words → Answer Words
product_words v w mask a b = mapped (words_of w) (product (digits_of v) (digits_of w) mask (parts_of v a) (parts_of v b))
