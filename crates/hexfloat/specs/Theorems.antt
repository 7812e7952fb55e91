-- What is proved of the definitions, in the words of document 01: the exact value decides. The proofs are in proofs/, under the same names.
use Rattle.std.specs.Prelude.{◌≡◌, Bool, true, cond, ◌⊎◌, ℕ, suc, ◌+◌, ◌-◌, ◌*◌, ◌/◌, ◌%◌, ◌^◌, ◌≤◌, ◌<◌, eqb}
use Rattle.hexfloat.specs.declared.addition.Sense.{Sense}
use Rattle.hexfloat.specs.declared.signed.Signed.{Signed}
use Rattle.hexfloat.specs.declared.word.Coded.{Coded}
use Rattle.hexfloat.specs.declared.word.Parts.{Parts}
use Rattle.hexfloat.specs.declared.word.Width.{Width}
use Rattle.hexfloat.specs.declared.word.Width.TheVariants.{Short, Long}
use Rattle.hexfloat.specs.declared.word.Words.{Words}
use Rattle.hexfloat.specs.Answer.{Answer, gives, stops, mapped}
use Rattle.hexfloat.specs.Word.{true_zero, magnitude, short_words, long_parts}
use Rattle.hexfloat.specs.Align.{common_characteristic, aligned, IsAligned}
use Rattle.hexfloat.specs.Condition.{IsCondition, operand_condition, general_condition}
use Rattle.hexfloat.specs.Compare.{above, below, compared, compared_aligned, compared_words}
use Rattle.hexfloat.specs.Normal.{IsCharacteristic, IsFraction, IsBelowZero}
use Rattle.hexfloat.specs.Convert.{fixed_magnitude, word_magnitude, float_parts, fixed_coded, to_fixed, to_float}
use Rattle.hexfloat.specs.RoundTrip.{cut_to, ZerosAfter, homed}
use Rattle.hexfloat.specs.Result.{sign_by_algebra, result_of, underflow}
use Rattle.hexfloat.specs.Divide.{quotient, quotient_words}
use Rattle.hexfloat.specs.Multiply.{product, product_words}
use Rattle.hexfloat.specs.Add.{input, signed, intermediate_sum, sum, summed, summed_words}

-- For whole numbers a and b above 0 there is one characteristic of a / b, 0 or more or below 0, and to it one fraction of d digits.
pub record OneNumber (d a b : ℕ) : Type 0 where
  pub some : ((c : ℕ) × IsCharacteristic a b c) ⊎ ((k : ℕ) × (0 < k) × IsBelowZero a b k)
  pub apart : (c k : ℕ) → 0 < k → IsCharacteristic a b c → IsBelowZero a b k → ⊥
  pub one_characteristic : (c c' : ℕ) → IsCharacteristic a b c → IsCharacteristic a b c' → c ≡ c'
  pub some_fraction : (c : ℕ) → (f : ℕ) × IsFraction d a b c f
  pub one_fraction : (c f f' : ℕ) → IsFraction d a b c f → IsFraction d a b c f' → f ≡ f'

-- The result of the ratio a / b, b above 0: true zero, or what the exact ratio says, and each of the answers only where it says so. A ratio that has a
-- characteristic, 0 or more or below 0, is not zero.
pub record ExactResult (d : ℕ) (mask : Bool) (sign a b : ℕ) : Type 0 where
  pub zero : a ≡ 0 → result_of d mask sign a b ≡ gives true_zero
  pub overflows : (c : ℕ) → IsCharacteristic a b c → 127 < c → result_of d mask sign a b ≡ stops 9
  pub underflows : (k : ℕ) → 0 < k → IsBelowZero a b k → result_of d mask sign a b ≡ underflow mask
  pub cut : (c f : ℕ) → IsCharacteristic a b c → c ≤ 127 → IsFraction d a b c f
      → result_of d mask sign a b ≡ gives (record { sign = sign; characteristic = c; fraction = f })
  pub overflows_only : result_of d mask sign a b ≡ stops 9 → (c : ℕ) × IsCharacteristic a b c × (127 < c)
  pub underflows_only : result_of d mask sign a b ≡ stops 10 → (k : ℕ) × (0 < k) × IsBelowZero a b k
  pub zero_only : 0 < d → result_of d mask sign a b ≡ gives true_zero → (a ≡ 0) ⊎ ((k : ℕ) × (0 < k) × IsBelowZero a b k)

-- The quotient of two numbers of d digits is the result of the ratio of their magnitudes.
pub record ExactQuotient (d : ℕ) (mask : Bool) (x y : Parts) : Type 0 where
  pub zero_divisor : magnitude d y ≡ 0 → quotient d mask x y ≡ stops 8
  pub ratio : 0 < magnitude d y → quotient d mask x y ≡ result_of d mask (sign_by_algebra x y) (magnitude d x) (magnitude d y)

-- An aligned fraction is the exact magnitude cut toward zero to d + g digits at the characteristic c, and no other number is.
pub record ExactAlignment (d g c : ℕ) (p : Parts) : Type 0 where
  pub is : IsAligned d g c p (aligned g c p)
  pub only : (f : ℕ) → IsAligned d g c p f → aligned g c p ≡ f

-- The intermediate sum s at the characteristic c is the exact ratio of s * 16^c and 16^(65 + d): it is normalised and cut, overflows and underflows as
-- any result does, and has one characteristic and one fraction.
pub record ExactIntermediate (d : ℕ) (mask : Bool) (c : ℕ) (s : Signed) : Type 0 where
  pub result : ExactResult d mask s.sign (s.magnitude * 16 ^ c) (16 ^ (65 + d))
  pub number : 0 < s.magnitude → OneNumber d (s.magnitude * 16 ^ c) (16 ^ (65 + d))

-- the digits that fall past the g guard digits where x and y are aligned are zeros
pub record DropsZeros (g : ℕ) (x y : Parts) : Type 0 where
  pub first : x.fraction * 16 ^ g % 16 ^ (common_characteristic x y - x.characteristic) ≡ 0
  pub second : y.fraction * 16 ^ g % 16 ^ (common_characteristic x y - y.characteristic) ≡ 0

-- of the value of a number of d digits the part above zero, and the part below it
unfoldable pub positive : ℕ → Parts → ℕ
positive d p = above p.sign (magnitude d p)

unfoldable pub negative : ℕ → Parts → ℕ
negative d p = below p.sign (magnitude d p)

-- the exact sum of the values of two numbers of d digits
abbrev pub exact_sum : ℕ → Parts → Parts → Signed
exact_sum d x y = signed (positive d x + positive d y) (negative d x + negative d y)

-- The sum of two numbers of d digits: both inputs aligned, and the result of their intermediate sum; where aligning drops nothing but zeros, the exact
-- sum of the values, normalised and cut toward zero.
pub record ExactSum (d : ℕ) (mask : Bool) (x y : Parts) : Type 0 where
  pub first : ExactAlignment d 1 (common_characteristic (input x) (input y)) (input x)
  pub second : ExactAlignment d 1 (common_characteristic (input x) (input y)) (input y)
  pub result : ExactIntermediate d mask (common_characteristic (input x) (input y)) (intermediate_sum (input x) (input y))
  pub intermediate : sum d mask x y
      ≡ result_of d mask (intermediate_sum (input x) (input y)).sign ((intermediate_sum (input x) (input y)).magnitude * 16 ^ common_characteristic (input x) (input y)) (16 ^ (65 + d))
  pub exact : d ≤ 14 → DropsZeros 1 (input x) (input y) → sum d mask x y ≡ result_of d mask (exact_sum d x y).sign (exact_sum d x y).magnitude (16 ^ 78)

-- 8.9: the operands may be interchanged. 8.26, 8.27: a number less itself is true zero, unnormalised too. 8.3: an operand with a zero fraction may be
-- replaced by true zero.
pub record SumLaws (d : ℕ) (mask : Bool) (x y : Parts) : Type 0 where
  pub interchanged : sum d mask x y ≡ sum d mask y x
  pub less_itself : summed Sense.Minus d mask x x ≡ gives true_zero
  pub zero_first : (s : Sense) → x.fraction ≡ 0 → summed s d mask x y ≡ summed s d mask true_zero y
  pub zero_second : (s : Sense) → y.fraction ≡ 0 → summed s d mask x y ≡ sum d mask x true_zero

-- the same of words, short and long
pub record WordLaws (w : Width) (mask : Bool) (a b : Words) : Type 0 where
  pub interchanged : summed_words Sense.Plus w mask a b ≡ summed_words Sense.Plus w mask b a
  pub less_itself : summed_words Sense.Minus w mask a a ≡ gives (short_words 0)

-- The product of two numbers of d digits as a result of e: that of the exact product, which is the ratio of the magnitudes' product and 16^156. It is
-- normalised and cut, overflows and underflows as any result does, and has one characteristic and one fraction.
pub record ExactProduct (d e : ℕ) (mask : Bool) (x y : Parts) : Type 0 where
  pub ratio : product d e mask x y ≡ result_of e mask (sign_by_algebra x y) (magnitude d x * magnitude d y) (16 ^ 156)
  pub result : ExactResult e mask (sign_by_algebra x y) (magnitude d x * magnitude d y) (16 ^ 156)
  pub number : 0 < magnitude d x * magnitude d y → OneNumber e (magnitude d x * magnitude d y) (16 ^ 156)

-- a number without the last k digits of its fraction
abbrev pub without_last : ℕ → Parts → Parts
without_last k p = record { sign = p.sign; characteristic = p.characteristic; fraction = p.fraction / 16 ^ k }

-- 8.24, 8.25: the operands may be interchanged; a zero fraction of either gives true zero, and no stop. A product of fewer digits has the first ones of a
-- product of more.
pub record ProductLaws (d e : ℕ) (mask : Bool) (x y : Parts) : Type 0 where
  pub interchanged : product d e mask x y ≡ product d e mask y x
  pub zero_first : x.fraction ≡ 0 → product d e mask x y ≡ gives true_zero
  pub zero_second : y.fraction ≡ 0 → product d e mask x y ≡ gives true_zero
  pub first_digits : (k : ℕ) → product d e mask x y ≡ mapped (without_last k) (product d (e + k) mask x y)

-- The same of words: what an odd register gets is the first word of what an even one and the next get.
pub record ProductWordLaws (v w : Width) (mask : Bool) (a b : Words) : Type 0 where
  pub interchanged : product_words v w mask a b ≡ product_words v w mask b a
  pub first_word : product_words v Short mask a b ≡ mapped (λ r. short_words r.high) (product_words v Long mask a b)

-- p has the exact value of the product of x and y, and zeros for the digits that it has more than both
pub record IsWhole (d e : ℕ) (x y p : Parts) : Type 0 where
  pub value : magnitude e p * 16 ^ 78 ≡ magnitude d x * magnitude d y
  pub zeros : p.fraction % 16 ^ (e - 2 * d) ≡ 0

-- 8.25: a product of e digits, twice the operands' d or more, loses nothing. What is given is whole, or the exact product has a characteristic below 0.
pub record LosesNothing (d e : ℕ) (mask : Bool) (x y : Parts) : Type 0 where
  pub given : 2 * d ≤ e → e ≤ 14 → x.fraction < 16 ^ d → y.fraction < 16 ^ d → (p : Parts) → product d e mask x y ≡ gives p
      → IsWhole d e x y p ⊎ ((k : ℕ) × (0 < k) × IsBelowZero (magnitude d x * magnitude d y) (16 ^ 156) k)

-- What leaving the low by low part out would do: 8.24 names 'the three most significant' partial sums, and leaves open where a fraction is split. Here
-- the low part of a number has the last l digits of its fraction.
abbrev pub low_part : ℕ → Parts → Parts
low_part l p = record { sign = p.sign; characteristic = p.characteristic; fraction = p.fraction % 16 ^ l }

unfoldable pub without_low_by_low : ℕ → ℕ → Parts → Parts → ℕ
without_low_by_low d l x y = magnitude d x * magnitude d y - magnitude d (low_part l x) * magnitude d (low_part l y)

unfoldable pub shortened_product : ℕ → ℕ → Bool → Parts → Parts → Answer Parts
shortened_product d l mask x y = result_of d mask (sign_by_algebra x y) (without_low_by_low d l x y) (16 ^ 156)

-- d digits, the first of them not zero
pub record IsNormalised (d : ℕ) (p : Parts) : Type 0 where
  pub least : 16 ^ d ≤ p.fraction * 16
  pub most : p.fraction < 16 ^ d

-- q is p or lower, and by no more than one unit of the last digit of p
pub record AtMostOneUnitLower (d : ℕ) (p q : Parts) : Type 0 where
  pub never_higher : magnitude d q ≤ magnitude d p
  pub one_unit : magnitude d p ≤ magnitude d q + 16 ^ (p.characteristic + (14 - d))

-- where the low parts have fewer than half of the digits, and neither product stops
pub record LowByLow (d l : ℕ) (x y : Parts) : Type 0 where
  pub given : 2 * l < d → IsNormalised d x → IsNormalised d y → (p q : Parts) → product d d true x y ≡ gives p → shortened_product d l true x y ≡ gives q
      → AtMostOneUnitLower d p q

-- 8.0, 8.3: a normalised number is true zero, or its first digit is not zero
abbrev pub ZeroOrNormalised : ℕ → Parts → Type 0
ZeroOrNormalised d p = (p ≡ true_zero) ⊎ IsNormalised d p

-- 8.11, note: two numbers of d digits by their aligned fractions, each of which is the exact magnitude cut to d + g digits. They are found equal, or they
-- stand as by exact order: never the other way round. By exact order they stand where aligning drops nothing but zeros, and where both are normalised.
pub record AlignedOrder (d g : ℕ) (x y : Parts) : Type 0 where
  pub first : ExactAlignment d g (common_characteristic x y) x
  pub second : ExactAlignment d g (common_characteristic x y) y
  pub equal_or_exact : (compared_aligned g x y ≡ 0) ⊎ (compared_aligned g x y ≡ compared d x y)
  pub nothing_dropped : DropsZeros g x y → compared_aligned g x y ≡ compared d x y
  pub normalised : ZeroOrNormalised d x → ZeroOrNormalised d y → compared_aligned g x y ≡ compared d x y

-- Document 02, Job 4: for two long operands, each true zero or with a first digit that is not zero, the old rule and the new one agree.
pub record LongCompare (a b : Words) : Type 0 where
  pub rule : compared_words Long a b ≡ compared_aligned 2 (long_parts a) (long_parts b)
  pub order : AlignedOrder 14 2 (long_parts a) (long_parts b)
  pub agree : ZeroOrNormalised 14 (long_parts a) → ZeroOrNormalised 14 (long_parts b) → compared_words Long a b ≡ compared 14 (long_parts a) (long_parts b)

-- 8.7: the condition of the other order, 3 for 1 and 1 for 3
abbrev pub opposite : ℕ → ℕ
opposite c = cond (eqb c 0) 0 (4 - c)

-- 8.11, 8.12: the operands interchanged, and a number against itself
pub record CompareLaws (w : Width) (a b : Words) : Type 0 where
  pub interchanged : compared_words w b a ≡ opposite (compared_words w a b)
  pub itself : compared_words w a a ≡ 0

-- CVFX: the magnitude is the exact value times 65,536 cut toward zero, and no other number is.
pub record ExactFixed (p : Parts) : Type 0 where
  pub least : fixed_magnitude p * 16 ^ 74 ≤ magnitude 6 p
  pub most : magnitude 6 p < suc (fixed_magnitude p) * 16 ^ 74
  pub only : (m : ℕ) → m * 16 ^ 74 ≤ magnitude 6 p → magnitude 6 p < suc m * 16 ^ 74 → fixed_magnitude p ≡ m

-- CVFL: the characteristic and the fraction are those of the word over 65,536, cut to six digits, and no others are.
pub record ExactFloat (w : ℕ) : Type 0 where
  pub zero : word_magnitude w ≡ 0 → float_parts w ≡ true_zero
  pub characteristic : 0 < word_magnitude w → IsCharacteristic (word_magnitude w) 65536 (float_parts w).characteristic
  pub fraction : 0 < word_magnitude w → IsFraction 6 (word_magnitude w) 65536 (float_parts w).characteristic (float_parts w).fraction
  pub only : 0 < word_magnitude w → (c f : ℕ) → IsCharacteristic (word_magnitude w) 65536 c → IsFraction 6 (word_magnitude w) 65536 c f
      → float_parts w ≡ record { sign = w / 2 ^ 31; characteristic = c; fraction = f }

-- Document 02, Job 9: what CVFL gives for a word, CVFX turns back without a stop into the word with its magnitude cut to six digits, with the condition
-- code of its upper halfword. A word of 32 bits keeps its sign; it comes back unaltered exactly if the digits after those six are zero; and what came back
-- once comes back unaltered.
pub record RoundTrip (w : ℕ) : Type 0 where
  pub returns : to_fixed (to_float w).word ≡ gives (fixed_coded (homed w))
  pub sign : w < 2 ^ 32 → homed w / 2 ^ 31 ≡ w / 2 ^ 31
  pub cut : w < 2 ^ 32 → word_magnitude (homed w) ≡ cut_to 6 (word_magnitude w)
  pub unaltered : w < 2 ^ 32 → ZerosAfter 6 (word_magnitude w) → homed w ≡ w
  pub unaltered_only : w < 2 ^ 32 → homed w ≡ w → ZerosAfter 6 (word_magnitude w)
  pub again : w < 2 ^ 32 → homed (homed w) ≡ homed w

-- 8.7: every condition that an order sets is 0, 1 or 3.
pub record ConditionsSet : Type 0 where
  pub operand : (w : Width) (a : Words) → IsCondition (operand_condition w a)
  pub general : (w : ℕ) → IsCondition (general_condition w)
  pub compare : (w : Width) (a b : Words) → IsCondition (compared_words w a b)
  pub fixed : (w : ℕ) (c : Coded) → to_fixed w ≡ gives c → IsCondition c.condition
  pub float : (w : ℕ) → IsCondition (to_float w).condition

-- an answer that gives something, or stops by a number from lo to hi
pub data Numbered {A : Type 0} (lo hi : ℕ) : Answer A → Type 0 where
  given : {a : A} → Numbered lo hi (gives a)
  stopped : {n : ℕ} → lo ≤ n → n ≤ hi → Numbered lo hi (stops n)

-- Arithmetic stops by 8 to 11 alone: the divides by 8, 9 and 10, sums, differences and products by 9 and 10, CVFX by 11.
pub record StopsNumbered : Type 0 where
  pub fixed : (w : ℕ) → Numbered 11 11 (to_fixed w)
  pub quotient : (w : Width) (mask : Bool) (a b : Words) → Numbered 8 10 (quotient_words w mask a b)
  pub sum : (s : Sense) (w : Width) (mask : Bool) (a b : Words) → Numbered 9 10 (summed_words s w mask a b)
  pub product : (v w : Width) (mask : Bool) (a b : Words) → Numbered 9 10 (product_words v w mask a b)
