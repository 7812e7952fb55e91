-- The theorems on sums of specs/Theorems.antt, over the digits d.
use mathlib.Core.Path.{◌≡◌, refl, sym, ap, ap₂, ◌∙◌}
use mathlib.Core.Bool.{Bool}
use mathlib.Core.Logic.{⊎_elim}
use Prim.Native.Nat.{ℕ, ◌+◌, ◌-◌, ◌*◌, ◌^◌, ◌≤◌, ◌<◌}
use native.Mathlib.Nat.{add_comm, add-mul, mul_assoc, mul-pos, zero-mul, eq-zero-or-pos}
use native.Mathlib.Omega.{arith}
use lib.Pow.{pow-add}
use Rattle.hexfloat.specs.declared.addition.Sense.{Sense}
use Rattle.hexfloat.specs.declared.signed.Signed.{Signed}
use Rattle.hexfloat.specs.declared.word.Parts.{Parts}
use Rattle.hexfloat.specs.declared.word.Width.{Width}
use Rattle.hexfloat.specs.declared.word.Words.{Words}
use Rattle.hexfloat.specs.Add.{addend_of, input, signed, intermediate_sum, result_of_sum, sum_of_inputs, sum, summed, summed_words}
use Rattle.hexfloat.specs.Align.{common_characteristic, aligned}
use Rattle.hexfloat.specs.Answer.{gives, mapped}
use Rattle.hexfloat.specs.Compare.{above, below}
use Rattle.hexfloat.specs.Result.{result_of}
use Rattle.hexfloat.specs.Theorems.{ExactAlignment, ExactIntermediate, DropsZeros, positive, negative, exact_sum, ExactSum, SumLaws, WordLaws}
use Rattle.hexfloat.specs.Word.{digits_of, parts_of, words_of, inverted, true_zero, magnitude}
use Rattle.hexfloat.proofs.Added.{input-zero, input_some}
use Rattle.hexfloat.proofs.Aligned.{common_left, common_right, common_swapped, aligned_is, aligned_unique, aligned_kept}
use Rattle.hexfloat.proofs.Digits.{pos, same_power}
use Rattle.hexfloat.proofs.Fits.{no_bits}
use Rattle.hexfloat.proofs.Normalised.{magnitude-zero}
use Rattle.hexfloat.proofs.Results.{of_zero}
use Rattle.hexfloat.proofs.Scaled.{scaled_result, scaled_sign, scaled_magnitude}
use Rattle.hexfloat.proofs.Signs.{above_scaled, below_scaled, above_zero, below-zero, opposed, signed_level}
use Rattle.hexfloat.proofs.Theorems.{one_number, exact_result}

pub exact_alignment : (d g c : ℕ) (p : Parts) → p.characteristic ≤ c → ExactAlignment d g c p
exact_alignment d g c p h = record { is = aligned_is g c p d h; only = λ f r. aligned_unique (aligned_is g c p d h) r }

pub exact_intermediate : (d : ℕ) (mask : Bool) (c : ℕ) (s : Signed) → ExactIntermediate d mask c s
exact_intermediate d mask c s = record {
  result = exact_result d mask s.sign (s.magnitude * 16 ^ c) (16 ^ (65 + d)) (pos (65 + d));
  number = λ h. one_number d (s.magnitude * 16 ^ c) (16 ^ (65 + d)) (mul-pos h (pos c)) (pos (65 + d));
}

-- zero operands have the value of true zero
module _ (d : ℕ) (p : Parts) where
  positive-zero : p.fraction ≡ 0 → positive d p ≡ 0
  unfolding positive
  positive-zero e = ap (above p.sign) (magnitude-zero d p e) ∙ above_zero p.sign

  negative-zero : p.fraction ≡ 0 → negative d p ≡ 0
  unfolding negative
  negative-zero e = ap (below p.sign) (magnitude-zero d p e) ∙ below-zero p.sign

-- so an input has its operand's value
input_keeps : {A : Type 0} (f : Parts → A) (p : Parts) → (p.fraction ≡ 0 → f true_zero ≡ f p) → f (input p) ≡ f p
input_keeps f p zeros =
    ⊎_elim (λ e. ap f (input-zero p e) ∙ zeros e) (λ h. ap f (input_some p (λ e. omega arith))) (eq-zero-or-pos p.fraction)

exact_inputs : (d : ℕ) (x y : Parts) → exact_sum d (input x) (input y) ≡ exact_sum d x y
exact_inputs d x y =
    ap₂ signed
    (ap₂ (λ (a b : ℕ). a + b) (positive_kept x) (positive_kept y))
    (ap₂ (λ (a b : ℕ). a + b) (negative_kept x) (negative_kept y))
  where
    positive_kept : (p : Parts) → positive d (input p) ≡ positive d p
    positive_kept p = input_keeps (positive d) p (λ e. positive-zero d true_zero refl ∙ sym (positive-zero d p e))

    negative_kept : (p : Parts) → negative d (input p) ≡ negative d p
    negative_kept p = input_keeps (negative d) p (λ e. negative-zero d true_zero refl ∙ sym (negative-zero d p e))

-- Where aligning drops nothing but zeros, the intermediate sum is the exact one in units of its last digit.
module _ (d : ℕ) (x y : Parts) (z : DropsZeros 1 x y) where
  abbrev c : ℕ
  c = common_characteristic x y

  abbrev unit : ℕ
  unit = 16 ^ (c + (14 - d))

  first_kept : aligned 1 c x * unit ≡ magnitude d x * 16
  first_kept = aligned_kept 1 c x d (common_left x y) z.first

  second_kept : aligned 1 c y * unit ≡ magnitude d y * 16
  second_kept = aligned_kept 1 c y d (common_right x y) z.second

  -- the part of the intermediate sum above zero or below it
  part_kept : (part : ℕ → ℕ → ℕ) → ((s m k : ℕ) → part s m * k ≡ part s (m * k))
      → (part x.sign (aligned 1 c x) + part y.sign (aligned 1 c y)) * unit ≡ (part x.sign (magnitude d x) + part y.sign (magnitude d y)) * 16
  part_kept part scaled =
      add-mul (part x.sign (aligned 1 c x)) (part y.sign (aligned 1 c y)) unit
      ∙ ap₂ (λ (a b : ℕ). a + b)
      (scaled x.sign (aligned 1 c x) unit ∙ ap (part x.sign) first_kept ∙ sym (scaled x.sign (magnitude d x) 16))
      (scaled y.sign (aligned 1 c y) unit ∙ ap (part y.sign) second_kept ∙ sym (scaled y.sign (magnitude d y) 16))
      ∙ sym (add-mul (part x.sign (magnitude d x)) (part y.sign (magnitude d y)) 16)

  abbrev p : ℕ
  p = above x.sign (aligned 1 c x) + above y.sign (aligned 1 c y)

  abbrev n : ℕ
  n = below x.sign (aligned 1 c x) + below y.sign (aligned 1 c y)

  abbrev P : ℕ
  P = above x.sign (magnitude d x) + above y.sign (magnitude d y)

  abbrev N : ℕ
  N = below x.sign (magnitude d x) + below y.sign (magnitude d y)

  same : signed (p * unit) (n * unit) ≡ signed (P * 16) (N * 16)
  same = ap₂ signed (part_kept above above_scaled) (part_kept below below_scaled)

  same_sign : (intermediate_sum x y).sign ≡ (exact_sum d x y).sign
  unfolding intermediate_sum positive negative
  same_sign = sym (scaled_sign unit (pos (c + (14 - d))) p n) ∙ ap (λ (s : Signed). s.sign) same ∙ scaled_sign 16 (omega arith) P N

  same-magnitude : (intermediate_sum x y).magnitude * unit ≡ (exact_sum d x y).magnitude * 16
  unfolding intermediate_sum positive negative
  same-magnitude = sym (scaled_magnitude unit p n) ∙ ap (λ (s : Signed). s.magnitude) same ∙ scaled_magnitude 16 P N

  exact_of_inputs : (mask : Bool) → d ≤ 14 → sum_of_inputs d mask x y ≡ result_of d mask (exact_sum d x y).sign (exact_sum d x y).magnitude (16 ^ 78)
  unfolding result_of_sum
  exact_of_inputs mask h =
      let s = intermediate_sum x y in
      let e = exact_sum d x y in
      sym (scaled_result (16 ^ (14 - d)) (pos (14 - d)) (s.magnitude * 16 ^ c) (16 ^ (65 + d)) d mask s.sign)
      ∙ ap₂ (result_of d mask s.sign) (dividend s.magnitude) (same_power (65 + d) (14 - d) 78 1 (omega arith))
      ∙ ap₂ (λ (sign a : ℕ). result_of d mask sign a (16 ^ 78 * 16)) same_sign same-magnitude
      ∙ scaled_result 16 (omega arith) e.magnitude (16 ^ 78) d mask e.sign
    where
      dividend : (m : ℕ) → m * 16 ^ c * 16 ^ (14 - d) ≡ m * unit
      dividend m = mul_assoc m (16 ^ c) (16 ^ (14 - d)) ∙ ap (λ (x : ℕ). m * x) (sym (pow-add 16 c (14 - d)))

pub exact_sum_lem : (d : ℕ) (mask : Bool) (x y : Parts) → ExactSum d mask x y
unfolding sum result_of_sum
exact_sum_lem d mask x y = record {
  first = exact_alignment d 1 (common_characteristic (input x) (input y)) (input x) (common_left (input x) (input y));
  second = exact_alignment d 1 (common_characteristic (input x) (input y)) (input y) (common_right (input x) (input y));
  result = exact_intermediate d mask (common_characteristic (input x) (input y)) (intermediate_sum (input x) (input y));
  intermediate = refl;
  exact = λ h z.
      exact_of_inputs d (input x) (input y) z mask h
      ∙ ap (λ (e : Signed). result_of d mask e.sign e.magnitude (16 ^ 78)) (exact_inputs d x y);
}

-- the operands interchanged
intermediate_swapped : (x y : Parts) → intermediate_sum x y ≡ intermediate_sum y x
unfolding intermediate_sum
intermediate_swapped x y = turned (common_characteristic x y) ∙ ap at (common_swapped x y)
  where
    at : ℕ → Signed
    at k = signed (above y.sign (aligned 1 k y) + above x.sign (aligned 1 k x)) (below y.sign (aligned 1 k y) + below x.sign (aligned 1 k x))

    turned : (k : ℕ) → signed (above x.sign (aligned 1 k x) + above y.sign (aligned 1 k y)) (below x.sign (aligned 1 k x) + below y.sign (aligned 1 k y)) ≡ at k
    turned k = ap₂ signed (add_comm (above x.sign (aligned 1 k x)) (above y.sign (aligned 1 k y))) (add_comm (below x.sign (aligned 1 k x)) (below y.sign (aligned 1 k y)))

module _ (d : ℕ) (mask : Bool) where
  swapped : (x y : Parts) → sum d mask x y ≡ sum d mask y x
  unfolding sum
  swapped x y = ap₂ (result_of_sum d mask) (common_swapped (input x) (input y)) (intermediate_swapped (input x) (input y))

  -- a sum of inputs that cancel
  cancelled : (x y : Parts) → (intermediate_sum x y).magnitude ≡ 0 → sum_of_inputs d mask x y ≡ gives true_zero
  unfolding result_of_sum
  cancelled x y e =
      of_zero d mask _ ((intermediate_sum x y).magnitude * 16 ^ common_characteristic x y) (16 ^ (65 + d))
      (ap (λ (m : ℕ). m * 16 ^ common_characteristic x y) e ∙ zero-mul (16 ^ common_characteristic x y))

  no_sum : (intermediate_sum true_zero true_zero).magnitude ≡ 0
  unfolding intermediate_sum aligned common_characteristic signed
  no_sum = refl

  opposite : (x : Parts) → (intermediate_sum x (inverted x)).magnitude ≡ 0
  unfolding intermediate_sum aligned
  opposite x = signed_level _ _ (opposed x.sign (aligned 1 (common_characteristic x (inverted x)) x))

  less_itself : (x : Parts) → summed Sense.Minus d mask x x ≡ gives true_zero
  unfolding summed sum addend_of
  less_itself x = ⊎_elim none some (eq-zero-or-pos x.fraction)
    where
      none : x.fraction ≡ 0 → sum_of_inputs d mask (input x) (input (inverted x)) ≡ gives true_zero
      none e = ap₂ (sum_of_inputs d mask) (input-zero x e) (input-zero (inverted x) e) ∙ cancelled true_zero true_zero no_sum

      some : 0 < x.fraction → sum_of_inputs d mask (input x) (input (inverted x)) ≡ gives true_zero
      some h = ap₂ (sum_of_inputs d mask) (input_some x (λ e. omega arith)) (input_some (inverted x) (λ e. omega arith)) ∙ cancelled x (inverted x) (opposite x)

  zero_for : (x y : Parts) → y.fraction ≡ 0 → sum d mask x y ≡ sum d mask x true_zero
  unfolding sum
  zero_for x y e = ap (sum_of_inputs d mask (input x)) (input-zero y e ∙ sym (input-zero true_zero refl))

  zero_before : (x y : Parts) → x.fraction ≡ 0 → sum d mask x y ≡ sum d mask true_zero y
  zero_before x y e = swapped x y ∙ zero_for y x e ∙ swapped y true_zero

addend_fraction : (s : Sense) (y : Parts) → (addend_of s y).fraction ≡ y.fraction
unfolding addend_of
addend_fraction Sense.Plus y = refl
addend_fraction Sense.Minus y = refl

pub sum_laws : (d : ℕ) (mask : Bool) (x y : Parts) → SumLaws d mask x y
unfolding summed
sum_laws d mask x y = record {
  interchanged = swapped d mask x y;
  less_itself = less_itself d mask x;
  zero_first = λ s e. zero_before d mask x (addend_of s y) e;
  zero_second = λ s e. zero_for d mask x (addend_of s y) (addend_fraction s y ∙ e);
}

pub word_laws : (w : Width) (mask : Bool) (a b : Words) → WordLaws w mask a b
unfolding summed_words summed addend_of
word_laws w mask a b = record {
  interchanged = ap (mapped (words_of w)) (sum_laws (digits_of w) mask (parts_of w a) (parts_of w b)).interchanged;
  less_itself = ap (mapped (words_of w)) (sum_laws (digits_of w) mask (parts_of w a) (parts_of w b)).less_itself ∙ ap gives (no_bits w);
}
