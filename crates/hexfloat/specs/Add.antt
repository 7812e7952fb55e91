-- Sums and differences (8.9, 8.10, 8.26, 8.27), over the digits d: two inputs, aligned; their intermediate sum; its result.
use Rattle.std.specs.Prelude.{ℕ, ◌+◌, ◌-◌, ◌*◌, ◌^◌, Bool, cond, ltb, eqb}
use Rattle.hexfloat.specs.declared.addition.Sense.{Sense}
use Rattle.hexfloat.specs.declared.signed.Signed.{Signed}
use Rattle.hexfloat.specs.declared.word.Parts.{Parts}
use Rattle.hexfloat.specs.declared.word.Width.{Width}
use Rattle.hexfloat.specs.declared.word.Words.{Words}
use Rattle.hexfloat.specs.Align.{common_characteristic, aligned}
use Rattle.hexfloat.specs.Answer.{Answer, mapped}
use Rattle.hexfloat.specs.Compare.{above, below}
use Rattle.hexfloat.specs.Result.{result_of}
use Rattle.hexfloat.specs.Word.{digits_of, parts_of, words_of, inverted, true_zero}

-- 8.3: an input with a zero fraction is treated as a true zero, whatever its sign and characteristic
unfoldable pub input : Parts → Parts
input p = cond (eqb p.fraction 0) true_zero p

-- 8.9: what is p above zero and n below it: the sign by the rules of algebra, zero being positive, and the distance of p and n
unfoldable pub signed : ℕ → ℕ → Signed
signed p n = record { sign = cond (ltb p n) 1 0; magnitude = p - n + (n - p) }

-- 8.10: an intermediate sum of seven digits, six and a guard digit, and a possible carry; 8.9: of 15. It is the sum of the aligned fractions by their
-- signs, with the negative parts brought over as for a compare.
unfoldable pub intermediate_sum : Parts → Parts → Signed
intermediate_sum x y =
    let c = common_characteristic x y in
    let u = aligned 1 c x in
    let v = aligned 1 c y in
    signed (above x.sign u + above y.sign v) (below x.sign u + below y.sign v)

-- An intermediate sum s of d + 1 digits at characteristic c is s / 16^(d + 1) * 16^(c - 64), that is the ratio of s * 16^c and 16^(65 + d). It is
-- normalised and cut, and overflows and underflows, as any result.
unfoldable pub result_of_sum : ℕ → Bool → ℕ → Signed → Answer Parts
result_of_sum d mask c s = result_of d mask s.sign (s.magnitude * 16 ^ c) (16 ^ (65 + d))

abbrev pub sum_of_inputs : ℕ → Bool → Parts → Parts → Answer Parts
sum_of_inputs d mask x y = result_of_sum d mask (common_characteristic x y) (intermediate_sum x y)

-- the sum of two numbers of d digits
unfoldable pub sum : ℕ → Bool → Parts → Parts → Answer Parts
sum d mask x y = sum_of_inputs d mask (input x) (input y)

-- 8.26, 8.27: for a subtraction the sign of the second operand is inverted before addition
unfoldable pub addend_of : Sense → Parts → Parts
addend_of Sense.Plus y = y
addend_of Sense.Minus y = inverted y

unfoldable pub summed : Sense → ℕ → Bool → Parts → Parts → Answer Parts
summed s d mask x y = sum d mask x (addend_of s y)

-- 8.10, 8.27 short, 8.9, 8.26 long
unfoldable pub summed_words : Sense → Width → Bool → Words → Words → Answer Words
summed_words s w mask a b = mapped (words_of w) (summed s (digits_of w) mask (parts_of w a) (parts_of w b))
