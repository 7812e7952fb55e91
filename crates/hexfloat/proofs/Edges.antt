-- The edges hold: each is computed from the definitions.
use mathlib.Core.Path.{refl}
use native.Mathlib.Omega.{arith}
use Rattle.hexfloat.specs.Align.{common_characteristic, aligned}
use Rattle.hexfloat.specs.Normal.{digits, digits_in, characteristic_of, fraction_of}
use Rattle.hexfloat.specs.Condition.{condition_by}
use Rattle.hexfloat.specs.Compare.{compared_words, compared, compared_aligned}
use Rattle.hexfloat.specs.Convert.{to_fixed, to_float, float_parts, fixed_magnitude}
use Rattle.hexfloat.specs.RoundTrip.{cut_to, homed}
use Rattle.hexfloat.specs.Divide.{quotient_words, quotient}
use Rattle.hexfloat.specs.Result.{result_of}
use Rattle.hexfloat.specs.Word.{magnitude}
use Rattle.hexfloat.specs.Add.{addend_of, input, signed, intermediate_sum, result_of_sum, sum, summed, summed_words}
use Rattle.hexfloat.specs.Multiply.{product, product_words}
use Rattle.hexfloat.specs.Theorems.{without_low_by_low, shortened_product}
use Rattle.hexfloat.specs.Edges.{StarredEdges, CompareEdges, RoundTripEdges, WithoutPremise, SumEdges, ProductEdges}

pub starred_edges : StarredEdges
unfolding to_float float_parts condition_by to_fixed fixed_magnitude quotient_words quotient result_of compared_words compared compared_aligned common_characteristic aligned magnitude characteristic_of fraction_of digits digits_in
starred_edges = record {
  cvfl_one = refl;
  cvfl_least = refl;
  cvfl_minus = refl;
  cvfx_most = refl;
  cvfx_overflow = refl;
  cvfx_least = refl;
  third = refl;
  by_one = refl;
  underflow = refl;
  underflow_masked = refl;
  overflow = refl;
  compare_long = refl;
}

pub compare_edges : CompareEdges
unfolding compared_words compared compared_aligned common_characteristic aligned magnitude condition_by
compare_edges = record {
  zero_fraction = refl;
  zero_against_negative = refl;
  first_dropped = refl;
  last_kept = refl;
  second_example = refl;
  third_example = refl;
  short_exact = refl;
  short_zero = refl;
}

pub round_trip_edges : RoundTripEdges
unfolding homed cut_to digits digits_in
round_trip_edges = record { zero = refl; six_digits = refl; seventh_digit = refl; most = refl; least = refl; negative = refl }

pub without_premise : WithoutPremise
unfolding compared_words compared compared_aligned common_characteristic aligned magnitude condition_by
without_premise = record {
  leading_zero = record { aligned = refl; exact = refl; normalised = record { least = omega arith; most = omega arith } };
  zero_fraction = record { aligned = refl; exact = refl; normalised = record { least = omega arith; most = omega arith } };
}

pub sum_edges : SumEdges
unfolding summed_words summed addend_of sum input intermediate_sum result_of_sum result_of common_characteristic aligned signed characteristic_of fraction_of digits digits_in
sum_edges = record {
  guard_digit = refl;
  last_kept = refl;
  first_dropped = refl;
  no_carry = refl;
  overflow = refl;
  unnormalised = refl;
  zero_fraction = refl;
  normalised = refl;
  underflow = refl;
  underflow_masked = refl;
}

pub product_edges : ProductEdges
unfolding product_words product shortened_product without_low_by_low result_of magnitude characteristic_of fraction_of digits digits_in
product_edges = record {
  in_a_pair = refl;
  in_one_register = refl;
  largest_square = refl;
  shortened_square = refl;
  within_range = refl;
  overflow = refl;
  unnormalised = refl;
  zero_fraction = refl;
  underflow = refl;
  underflow_masked = refl;
}
