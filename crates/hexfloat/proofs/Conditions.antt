-- Every condition is 0, 1 or 3, and every stop has its number: each definition chooses among them.
use mathlib.Core.Path.{◌≡◌, subst}
use mathlib.Core.Bool.{Bool, true, false, cond}
use Prim.Native.Nat.{ℕ, ◌+◌, ◌*◌, ◌^◌, ◌≤◌}
use native.Mathlib.Omega.{arith}
use lib.Dec.{ltb, leb, eqb}
use Rattle.hexfloat.specs.declared.addition.Sense.{Sense}
use Rattle.hexfloat.specs.declared.word.Coded.{Coded}
use Rattle.hexfloat.specs.declared.word.Parts.{Parts}
use Rattle.hexfloat.specs.declared.word.Width.{Width}
use Rattle.hexfloat.specs.declared.word.Width.TheVariants.{Short, Long}
use Rattle.hexfloat.specs.declared.word.Words.{Words}
use Rattle.hexfloat.specs.Answer.{Answer, gives, stops, mapped}
use Rattle.hexfloat.specs.Word.{digits_of, parts_of, words_of, short_parts, magnitude}
use Rattle.hexfloat.specs.Condition.{IsCondition, zero, greater, less, condition_by, operand_condition, general_condition}
use Rattle.hexfloat.specs.Compare.{compared, compared_aligned, compared_words}
use Rattle.hexfloat.specs.Convert.{to_fixed, to_float, fixed_magnitude}
use Rattle.hexfloat.specs.Result.{result_of, underflow}
use Rattle.hexfloat.specs.Divide.{quotient, quotient_words}
use Rattle.hexfloat.specs.Multiply.{product, product_words}
use Rattle.hexfloat.specs.Add.{addend_of, result_of_sum, sum, summed, summed_words}
use Rattle.hexfloat.specs.Theorems.{ConditionsSet, Numbered, given, stopped, StopsNumbered}

by_tests : (equal above : Bool) → IsCondition (condition_by equal above)
unfolding condition_by
by_tests true above = zero
by_tests false true = greater
by_tests false false = less

-- a word that is given where a test passes has the condition that is given
word_given : (b : Bool) (x c : Coded) → IsCondition x.condition → cond b (gives x) (stops 11) ≡ gives c → IsCondition c.condition
word_given true x c h e = let same : x ≡ c = cc in subst (λ (y : Coded). IsCondition y.condition) same h
word_given false x c h e = let z : ◌≡◌ {A = ℕ} 0 1 = cc in let no : ⊥ = omega arith in absurd no

of_compare : (w : Width) (a b : Words) → IsCondition (compared_words w a b)
unfolding compared_words compared compared_aligned
of_compare Short a b = by_tests _ _
of_compare Long a b = by_tests _ _

pub conditions_set : ConditionsSet
unfolding operand_condition general_condition to_fixed to_float
conditions_set = record {
  operand = λ w a. by_tests _ _;
  general = λ w. by_tests _ _;
  compare = of_compare;
  fixed = λ w c e. word_given (ltb (fixed_magnitude (short_parts w)) (2 ^ 31 + (short_parts w).sign)) _ c (by_tests _ _) e;
  float = λ w. by_tests _ _;
}

choice : {A : Type 0} {lo hi : ℕ} (b : Bool) {x y : Answer A} → Numbered lo hi x → Numbered lo hi y → Numbered lo hi (cond b x y)
choice true p q = p
choice false p q = q

module _ {lo : ℕ} (h : lo ≤ 9) where
  on_mask : (mask : Bool) → Numbered lo 10 (underflow mask)
  on_mask true = stopped {n = 10} (omega arith) (omega arith)
  on_mask false = given

  of_result : (d : ℕ) (mask : Bool) (sign a b : ℕ) → Numbered lo 10 (result_of d mask sign a b)
  unfolding result_of
  of_result d mask sign a b =
      choice (eqb a 0) given
      (choice (leb (16 ^ 63 * b) a) (stopped h (omega arith))
      (choice (ltb (a * 16 ^ 65) b) (on_mask mask) given))

of_quotient : (d : ℕ) (mask : Bool) (x y : Parts) → Numbered 8 10 (quotient d mask x y)
unfolding quotient
of_quotient d mask x y = choice (eqb (magnitude d y) 0) (stopped (omega arith) (omega arith)) (of_result (omega arith) d mask _ (magnitude d x) (magnitude d y))

of_sum : (d : ℕ) (mask : Bool) (x y : Parts) → Numbered 9 10 (sum d mask x y)
unfolding sum result_of_sum
of_sum d mask x y = of_result (omega arith) d mask _ _ _

of_summed : (s : Sense) (d : ℕ) (mask : Bool) (x y : Parts) → Numbered 9 10 (summed s d mask x y)
unfolding summed
of_summed s d mask x y = of_sum d mask x (addend_of s y)

of_product : (d e : ℕ) (mask : Bool) (x y : Parts) → Numbered 9 10 (product d e mask x y)
unfolding product
of_product d e mask x y = of_result (omega arith) e mask _ (magnitude d x * magnitude d y) (16 ^ 156)

numbered_mapped : {A B : Type 0} {lo hi : ℕ} (f : A → B) (r : Answer A) → Numbered lo hi r → Numbered lo hi (mapped f r)
numbered_mapped f (gives a) given = given
numbered_mapped f (stops n) (stopped l h) = stopped l h

pub stops_numbered : StopsNumbered
unfolding to_fixed quotient_words summed_words product_words
stops_numbered = record {
  fixed = λ w. choice (ltb (fixed_magnitude (short_parts w)) (2 ^ 31 + (short_parts w).sign)) given (stopped (omega arith) (omega arith));
  quotient = λ w mask a b. numbered_mapped (words_of w) (quotient (digits_of w) mask (parts_of w a) (parts_of w b)) (of_quotient (digits_of w) mask (parts_of w a) (parts_of w b));
  sum = λ s w mask a b. numbered_mapped (words_of w) (summed s (digits_of w) mask (parts_of w a) (parts_of w b)) (of_summed s (digits_of w) mask (parts_of w a) (parts_of w b));
  product = λ v w mask a b. numbered_mapped (words_of w) (product (digits_of v) (digits_of w) mask (parts_of v a) (parts_of v b)) (of_product (digits_of v) (digits_of w) mask (parts_of v a) (parts_of v b));
}
