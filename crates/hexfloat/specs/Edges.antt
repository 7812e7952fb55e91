-- Edges as statements about the definitions that the contracts cite: the starred ones of document 01, 'Edges', and those of compares, sums and products.
use Rattle.std.specs.Prelude.{◌≡◌, true, false}
use Rattle.hexfloat.specs.declared.addition.Sense.TheVariants.{Plus, Minus}
use Rattle.hexfloat.specs.declared.word.Width.TheVariants.{Short, Long}
use Rattle.hexfloat.specs.declared.word.Words.{Words}
use Rattle.hexfloat.specs.Answer.{gives, stops}
use Rattle.hexfloat.specs.Word.{short_words, long_words, long_parts}
use Rattle.hexfloat.specs.Compare.{compared, compared_words}
use Rattle.hexfloat.specs.Convert.{to_fixed, to_float}
use Rattle.hexfloat.specs.RoundTrip.{homed}
use Rattle.hexfloat.specs.Divide.{quotient_words}
use Rattle.hexfloat.specs.Add.{summed_words}
use Rattle.hexfloat.specs.Multiply.{product_words}
use Rattle.hexfloat.specs.Theorems.{IsNormalised, shortened_product}

pub record StarredEdges : Type 0 where
  pub cvfl_one : to_float 0x00010000 ≡ record { word = 0x41100000; condition = 1 }
  pub cvfl_least : to_float 0x80000000 ≡ record { word = 0xC4800000; condition = 3 }
  pub cvfl_minus : to_float 0xFFFFFFFF ≡ record { word = 0xBD100000; condition = 3 }
  pub cvfx_most : to_fixed 0x447FFFFF ≡ gives (record { word = 0x7FFFFF00; condition = 1 })
  pub cvfx_overflow : to_fixed 0x44800000 ≡ stops 11
  pub cvfx_least : to_fixed 0xC4800000 ≡ gives (record { word = 0x80000000; condition = 3 })
  pub third : quotient_words Short true (short_words 0x41100000) (short_words 0x41300000) ≡ gives (short_words 0x40555555)
  pub by_one : quotient_words Short true (short_words 0x00100000) (short_words 0x41100000) ≡ gives (short_words 0x00100000)
  pub underflow : quotient_words Short true (short_words 0x00100000) (short_words 0x41200000) ≡ stops 10
  pub underflow_masked : quotient_words Short false (short_words 0x00100000) (short_words 0x41200000) ≡ gives (short_words 0)
  pub overflow : quotient_words Short true (short_words 0x7FFFFFFF) (short_words 0x40800000) ≡ stops 9
  pub compare_long : compared_words Long (long_words 0x423FFFFF 0x00001234) (long_words 0x423FFFFF 0x00801234) ≡ 3

-- Compares: long ones by the first 64 bits of their aligned fractions, and without the false equalities of 8.11's note, whose first example is starred;
-- short ones by exact order (8.11, 8.12; document 02, Job 4).
pub record CompareEdges : Type 0 where
  pub zero_fraction : compared_words Long (long_words 0x7F000000 0) (long_words 0x41100000 0) ≡ 0
  pub zero_against_negative : compared_words Long (long_words 0x7F000000 0) (long_words 0xC1100000 0) ≡ 0
  pub first_dropped : compared_words Long (long_words 0x43000000 0x00000001) (long_words 0x40000000 0x0000100F) ≡ 0
  pub last_kept : compared_words Long (long_words 0x43000000 0x00000001) (long_words 0x40000000 0x000010F0) ≡ 3
  pub second_example : compared_words Long (long_words 0xBEFFFFFF 0xFB076890) (long_words 0xBF100000 0x00307689) ≡ 1
  pub third_example : compared_words Long (long_words 0x40100000 0x00001234) (long_words 0x3FFFFFFF 0xF8012340) ≡ 1
  pub short_exact : compared_words Short (short_words 0x42000001) (short_words 0x4000010F) ≡ 3
  pub short_zero : compared_words Short (short_words 0x7F000000) (short_words 0x41100000) ≡ 3

-- Words to float and back (document 02, Job 9): six digits come back, later ones only where they are zero; of a negative word the magnitude is cut.
pub record RoundTripEdges : Type 0 where
  pub zero : homed 0 ≡ 0
  pub six_digits : homed 0x00FFFFFF ≡ 0x00FFFFFF
  pub seventh_digit : homed 0x01000001 ≡ 0x01000000
  pub most : homed 0x7FFFFFFF ≡ 0x7FFFFF00
  pub least : homed 0x80000000 ≡ 0x80000000
  pub negative : homed 0xFEFFFFFF ≡ 0xFF000000

-- long operands that are equal after alignment and not by exact order, the second of which is normalised
pub record RulesDiffer (a b : Words) : Type 0 where
  pub aligned : compared_words Long a b ≡ 0
  pub exact : compared 14 (long_parts a) (long_parts b) ≡ 3
  pub normalised : IsNormalised 14 (long_parts b)

-- Why theorem `long_compare` wants both operands to be true zero or to have a first digit that is not zero: a leading zero digit, and a zero fraction
-- with a characteristic.
pub record WithoutPremise : Type 0 where
  pub leading_zero : RulesDiffer (long_words 0x42000000 0x00000001) (long_words 0x35100000 0x00000001)
  pub zero_fraction : RulesDiffer (long_words 0x7F000000 0) (long_words 0x41100000 0)

-- Sums at the edges of the guard digit, of the common characteristic, of zero operands and of the limits (8.3, 8.9, 8.10, 8.26, 8.27).
pub record SumEdges : Type 0 where
  pub guard_digit : summed_words Minus Short true (short_words 0x41100000) (short_words 0x3F10000F) ≡ gives (short_words 0x40FF0000)
  pub last_kept : summed_words Minus Short true (short_words 0x41100000) (short_words 0x3B100000) ≡ gives (short_words 0x40FFFFFF)
  pub first_dropped : summed_words Minus Short true (short_words 0x41100000) (short_words 0x3A100000) ≡ gives (short_words 0x41100000)
  pub no_carry : summed_words Plus Short true (short_words 0x7FFFFFFF) (short_words 0x79F00000) ≡ gives (short_words 0x7FFFFFFF)
  pub overflow : summed_words Plus Short true (short_words 0x7FFFFFFF) (short_words 0x7A100000) ≡ stops 9
  pub unnormalised : summed_words Minus Short true (short_words 0x42000001) (short_words 0x4000010F) ≡ gives (short_words 0)
  pub zero_fraction : summed_words Plus Short true (short_words 0x7F000000) (short_words 0x41123456) ≡ gives (short_words 0x41123456)
  pub normalised : summed_words Plus Short true (short_words 0x41012345) (short_words 0) ≡ gives (short_words 0x40123450)
  pub underflow : summed_words Plus Short true (short_words 0x00000001) (short_words 0) ≡ stops 10
  pub underflow_masked : summed_words Plus Short false (short_words 0x80000001) (short_words 0) ≡ gives (short_words 0)

-- Products in a pair and in one register, at the limits, of zero and unnormalised operands, and what a product without its low by low part would be
-- (8.24, 8.25).
pub record ProductEdges : Type 0 where
  pub in_a_pair : product_words Short Long true (short_words 0x41123456) (short_words 0x41654321) ≡ gives (long_words 0x417336BF 0x94116000)
  pub in_one_register : product_words Short Short true (short_words 0x41123456) (short_words 0x41654321) ≡ gives (short_words 0x417336BF)
  pub largest_square : product_words Long Long true (long_words 0x41FFFFFF 0xFFFFFFFF) (long_words 0x41FFFFFF 0xFFFFFFFF) ≡ gives (long_words 0x42FFFFFF 0xFFFFFFFE)
  pub shortened_square : shortened_product 14 6 true (long_parts (long_words 0x41FFFFFF 0xFFFFFFFF)) (long_parts (long_words 0x41FFFFFF 0xFFFFFFFF))
      ≡ gives (long_parts (long_words 0x42FFFFFF 0xFFFFFFFD))
  pub within_range : product_words Short Short true (short_words 0x60100000) (short_words 0x60100000) ≡ gives (short_words 0x7F100000)
  pub overflow : product_words Short Short true (short_words 0x60100000) (short_words 0x61100000) ≡ stops 9
  pub unnormalised : product_words Short Short true (short_words 0x7F000001) (short_words 0x46100000) ≡ gives (short_words 0x7F100000)
  pub zero_fraction : product_words Short Long true (short_words 0xFF000000) (short_words 0x7FFFFFFF) ≡ gives (short_words 0)
  pub underflow : product_words Short Short true (short_words 0x00100000) (short_words 0x40800000) ≡ stops 10
  pub underflow_masked : product_words Short Long false (short_words 0x80100000) (short_words 0x40800000) ≡ gives (short_words 0)
