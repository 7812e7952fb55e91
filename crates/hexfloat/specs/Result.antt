-- Results of arithmetic: an exact ratio of whole numbers as a normalised number of d digits, within the limits of the characteristic (8.3, 8.8;
-- document 01, 'Divide').
use Rattle.std.specs.Prelude.{Result, Ok, Err, ℕ, ◌+◌, ◌*◌, ◌%◌, ◌^◌, Bool, true, false, cond, ltb, leb, eqb}
use Rattle.hexfloat.specs.declared.word.Parts.{Parts}
use Rattle.hexfloat.specs.declared.word.Words.{Words}
use Rattle.hexfloat.specs.declared.result.Fault.{Fault}
use Rattle.hexfloat.specs.declared.result.Fault.TheVariants.{ZeroDivisor, Overflow, Underflow}
use Rattle.hexfloat.specs.Answer.{Answer, gives, stops}
use Rattle.hexfloat.specs.Word.{true_zero}
use Rattle.hexfloat.specs.Normal.{characteristic_of, fraction_of}

-- the number of a fault: zero divisor is 8, exponent overflow 9, exponent underflow 10
abbrev pub fault_number : Fault → ℕ
fault_number ZeroDivisor = 8
fault_number Overflow = 9
fault_number Underflow = 10

-- what the code's answer says
abbrev pub says_result : Result Words Fault → Answer Words
says_result (Ok a) = gives a
says_result (Err f) = stops (fault_number f)

-- 8.15, 8.16, 8.24, 8.25: the sign of a quotient or a product is determined by the rules of algebra
abbrev pub sign_by_algebra : Parts → Parts → ℕ
sign_by_algebra x y = (x.sign + y.sign) % 2

-- 8.8: under mask 0 an underflow gives true zero, under mask 1 it stops
abbrev pub underflow : Bool → Answer Parts
underflow true = stops 10
underflow false = gives true_zero

-- The ratio a / b, b above 0, with a sign, cut toward zero to d digits. A zero ratio is true zero. A characteristic e + 64 above 127, that is a ratio
-- of 16^63 or more, overflows; one below 0, that is a ratio below 16^(-65), underflows.
unfoldable pub result_of : ℕ → Bool → ℕ → ℕ → ℕ → Answer Parts
result_of d mask sign a b =
    cond (eqb a 0) (gives true_zero)
    (cond (leb (16 ^ 63 * b) a) (stops 9)
    (cond (ltb (a * 16 ^ 65) b) (underflow mask)
    (gives (record { sign = sign; characteristic = characteristic_of a b; fraction = fraction_of d a b }))))
