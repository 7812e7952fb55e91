-- The theorems on products of specs/Theorems.antt, over the digits d of the operands and e of the result.
use mathlib.Core.Path.{◌≡◌, refl, sym, ap, ap₂, ◌∙◌, subst, subst⁻¹}
use mathlib.Core.Bool.{Bool, true, false}
use mathlib.Core.Logic.{◌⊎◌, inl, inr}
use Prim.Native.Nat.{ℕ, suc, ◌+◌, ◌-◌, ◌*◌, ◌/◌, ◌%◌, ◌^◌, ◌≤◌, ◌<◌}
use native.Mathlib.Nat.{le_trans, le_of_eq, lt_of_lt_of_le, lt_of_le_of_lt, mul-lt-mul_of_pos_right, mul_comm, mul-div_cancel, mul-mod_left, mod-eq_of_lt, add_comm, zero-mul, mul-pos, div-eq_of_lt, div-div-eq-div-mul, mul-div-mul_right}
use native.Mathlib.Omega.{arith}
use lib.Pow.{pow-add}
use Rattle.hexfloat.specs.declared.word.Parts.{Parts}
use Rattle.hexfloat.specs.declared.word.Width.{Width}
use Rattle.hexfloat.specs.declared.word.Width.TheVariants.{Short, Long}
use Rattle.hexfloat.specs.declared.word.Words.{Words}
use Rattle.hexfloat.specs.Answer.{Answer, gives, stops, mapped}
use Rattle.hexfloat.specs.Multiply.{product, product_words}
use Rattle.hexfloat.specs.Normal.{IsCharacteristic, IsBelowZero, IsFraction}
use Rattle.hexfloat.specs.Result.{sign_by_algebra, result_of, underflow}
use Rattle.hexfloat.specs.Theorems.{ExactResult, ExactProduct, without_last, ProductLaws, ProductWordLaws, IsWhole, LosesNothing}
use Rattle.hexfloat.specs.Word.{digits_of, parts_of, words_of, short_words, magnitude, true_zero}
use Rattle.hexfloat.proofs.Answers.{gives_inj, never}
use Rattle.hexfloat.proofs.Digits.{pos, power_lt, product-below}
use Rattle.hexfloat.proofs.Multiplied.{places, product_moved, zero_first, zero_second}
use Rattle.hexfloat.proofs.Normalised.{magnitude-zero}
use Rattle.hexfloat.proofs.Placed.{parted}
use Rattle.hexfloat.proofs.Ratio.{cut_is, cut_unique}
use Rattle.hexfloat.proofs.Theorems.{one_number, exact_result, result_cases}

pub exact_product : (d e : ℕ) (mask : Bool) (x y : Parts) → ExactProduct d e mask x y
unfolding product
exact_product d e mask x y = record {
  ratio = refl;
  result = exact_result e mask (sign_by_algebra x y) (magnitude d x * magnitude d y) (16 ^ 156) (pos 156);
  number = λ h. one_number e (magnitude d x * magnitude d y) (16 ^ 156) h (pos 156);
}

-- the operands interchanged
sign_swapped : (x y : Parts) → sign_by_algebra x y ≡ sign_by_algebra y x
sign_swapped x y = ap (λ (s : ℕ). s % 2) (add_comm x.sign y.sign)

swapped : (d e : ℕ) (mask : Bool) (x y : Parts) → product d e mask x y ≡ product d e mask y x
unfolding product
swapped d e mask x y = ap₂ (λ (s a : ℕ). result_of e mask s a (16 ^ 156)) (sign_swapped x y) (mul_comm (magnitude d x) (magnitude d y))

-- fewer digits of a ratio are the first of more
fewer : (e k : ℕ) {a b c f : ℕ} → 0 < b → IsFraction (e + k) a b c f → IsFraction e a b c (f / 16 ^ k)
fewer e k {a} {b} {c} {f} hb s = subst⁻¹ (IsFraction e a b c) same (record { least = r.0; most = r.1 })
  where
    unit : ℕ
    unit = 16 ^ c * b

    r : (a * 16 ^ (64 + e) / unit * unit ≤ a * 16 ^ (64 + e)) × (a * 16 ^ (64 + e) < suc (a * 16 ^ (64 + e) / unit) * unit)
    r = cut_is (a * 16 ^ (64 + e)) unit (mul-pos (pos c) hb)

    same : f / 16 ^ k ≡ a * 16 ^ (64 + e) / unit
    same =
        ap (λ (x : ℕ). x / 16 ^ k) (sym (cut_unique (a * 16 ^ (64 + (e + k))) unit f s.least s.most))
        ∙ div-div-eq-div-mul (a * 16 ^ (64 + (e + k))) unit (16 ^ k)
        ∙ ap (λ (x : ℕ). x / (unit * 16 ^ k)) (parted a (64 + e) k (64 + (e + k)) (omega arith))
        ∙ mul-div-mul_right (a * 16 ^ (64 + e)) unit (pos k)

-- so is the result of fewer
first_digits : (d e k : ℕ) (mask : Bool) (x y : Parts) → product d e mask x y ≡ mapped (without_last k) (product d (e + k) mask x y)
unfolding product
first_digits d e k mask x y =
    result_cases (e + k) mask (sign_by_algebra x y) (magnitude d x * magnitude d y) (16 ^ 156) (pos 156) (λ r. result_of e mask (sign_by_algebra x y) (magnitude d x * magnitude d y) (16 ^ 156) ≡ mapped (without_last k) r)
    (λ z. few.zero z ∙ ap (λ (f : ℕ). gives (record { sign = 0; characteristic = 0; fraction = f })) (sym (div-eq_of_lt (pos k))))
    (λ c r h. few.overflows c r h)
    (λ j hj r. few.underflows j hj r ∙ by_mask mask)
    (λ c f r h s. few.cut c (f / 16 ^ k) r h (fewer e k (pos 156) s))
  where
    few : ExactResult e mask (sign_by_algebra x y) (magnitude d x * magnitude d y) (16 ^ 156)
    few = exact_result e mask (sign_by_algebra x y) (magnitude d x * magnitude d y) (16 ^ 156) (pos 156)

    by_mask : (m : Bool) → underflow m ≡ mapped (without_last k) (underflow m)
    by_mask true = refl
    by_mask false = ap (λ (f : ℕ). gives (record { sign = 0; characteristic = 0; fraction = f })) (sym (div-eq_of_lt (pos k)))

pub product_laws : (d e : ℕ) (mask : Bool) (x y : Parts) → ProductLaws d e mask x y
product_laws d e mask x y = record {
  interchanged = swapped d e mask x y;
  zero_first = zero_first d e mask x y;
  zero_second = zero_second d e mask x y;
  first_digits = λ k. first_digits d e k mask x y;
}

-- the first word of a long number is the short one of its first six digits
one_word : (r : Answer Parts) → mapped (words_of Short) (mapped (without_last 8) r) ≡ mapped (λ w. short_words w.high) (mapped (words_of Long) r)
one_word (gives p) = refl
one_word (stops n) = refl

pub product-word_laws : (v w : Width) (mask : Bool) (a b : Words) → ProductWordLaws v w mask a b
unfolding product_words
product-word_laws v w mask a b = record {
  interchanged = ap (mapped (words_of w)) (swapped (digits_of v) (digits_of w) mask (parts_of v a) (parts_of v b));
  first_word =
      ap (mapped (words_of Short)) (first_digits (digits_of v) 6 8 mask (parts_of v a) (parts_of v b))
      ∙ one_word (product (digits_of v) 14 mask (parts_of v a) (parts_of v b));
}

-- A fraction of e digits has room for all digits of a product of two fractions of d.
module _ (d e : ℕ) (x y : Parts) (twice : 2 * d ≤ e) (fits : e ≤ 14) (hx : x.fraction < 16 ^ d) (hy : y.fraction < 16 ^ d) where
  abbrev fractions : ℕ
  fractions = x.fraction * y.fraction

  abbrev p : ℕ
  p = places d x y

  module _ (c f : ℕ) (r : IsCharacteristic (magnitude d x * magnitude d y) (16 ^ 156) c) (s : IsFraction e (magnitude d x * magnitude d y) (16 ^ 156) c f) where
    -- the product's first digit is not above the first of its 2 d digits
    reach : c + 156 < d + d + (p + 65)
    reach =
        power_lt
        (lt_of_le_of_lt (le_trans (le_of_eq (pow-add 16 c 156)) (le_trans r.least (le_of_eq (ap (λ (z : ℕ). z * 16 ^ 65) (product_moved d x y) ∙ sym (parted fractions p 65 (p + 65) refl)))))
        (lt_of_lt_of_le (mul-lt-mul_of_pos_right (product-below hx hy) (pos (p + 65))) (le_of_eq (ap (λ (z : ℕ). z * 16 ^ (p + 65)) (sym (pow-add 16 d d)) ∙ sym (pow-add 16 (d + d) (p + 65))))))

    abbrev left : ℕ
    left = p + (64 + e) - (c + 156)

    -- so its last digit is not below the last of e
    whole : magnitude d x * magnitude d y * 16 ^ (64 + e) ≡ fractions * 16 ^ left * (16 ^ c * 16 ^ 156)
    whole =
        ap (λ (z : ℕ). z * 16 ^ (64 + e)) (product_moved d x y)
        ∙ sym (parted fractions p (64 + e) (p + (64 + e)) refl)
        ∙ parted fractions left (c + 156) (p + (64 + e)) (omega (arith, reach))
        ∙ ap (λ (z : ℕ). fractions * 16 ^ left * z) (pow-add 16 c 156)

    fraction_is : f ≡ fractions * 16 ^ left
    fraction_is =
        sym (cut_unique (magnitude d x * magnitude d y * 16 ^ (64 + e)) (16 ^ c * 16 ^ 156) f s.least s.most)
        ∙ ap (λ (z : ℕ). z / (16 ^ c * 16 ^ 156)) whole
        ∙ mul-div_cancel (fractions * 16 ^ left) (lt_of_lt_of_le (pos (c + 156)) (le_of_eq (pow-add 16 c 156)))

    zeros : f % 16 ^ (e - 2 * d) ≡ 0
    zeros =
        ap (λ (z : ℕ). z % 16 ^ (e - 2 * d)) (fraction_is ∙ parted fractions (left - (e - 2 * d)) (e - 2 * d) left (omega (arith, reach)))
        ∙ mul-mod_left (fractions * 16 ^ (left - (e - 2 * d))) (16 ^ (e - 2 * d))

    exact : f * 16 ^ (c + (14 - e)) * 16 ^ 78 ≡ magnitude d x * magnitude d y
    exact =
        sym (parted f (c + (14 - e)) 78 (c + (14 - e) + 78) refl)
        ∙ ap (λ (z : ℕ). z * 16 ^ (c + (14 - e) + 78)) fraction_is
        ∙ sym (parted fractions left (c + (14 - e) + 78) p (omega (arith, reach)))
        ∙ sym (product_moved d x y)

  whole_or_below : (mask : Bool) (q : Parts) → product d e mask x y ≡ gives q → IsWhole d e x y q ⊎ ((k : ℕ) × (0 < k) × IsBelowZero (magnitude d x * magnitude d y) (16 ^ 156) k)
  unfolding product magnitude
  whole_or_below mask q =
      result_cases e mask (sign_by_algebra x y) (magnitude d x * magnitude d y) (16 ^ 156) (pos 156)
      (λ r. r ≡ gives q → IsWhole d e x y q ⊎ ((k : ℕ) × (0 < k) × IsBelowZero (magnitude d x * magnitude d y) (16 ^ 156) k))
      (λ z g. inl (given g (record { value = ap (λ (v : ℕ). v * 16 ^ 78) (magnitude-zero e true_zero refl) ∙ zero-mul (16 ^ 78) ∙ sym z; zeros = mod-eq_of_lt (pos (e - 2 * d)) })))
      (λ c r h g. never g)
      (λ k hk r g. inr (k, hk, r))
      (λ c f r h s g. inl (given g (record { value = exact c f r s; zeros = zeros c f r s })))
    where
      given : {u : Parts} → gives u ≡ gives q → IsWhole d e x y u → IsWhole d e x y q
      given g l = subst (λ (v : Parts). IsWhole d e x y v) (gives_inj g) l

pub loses_nothing : (d e : ℕ) (mask : Bool) (x y : Parts) → LosesNothing d e mask x y
loses_nothing d e mask x y = record { given = λ twice fits hx hy. whole_or_below d e x y twice fits hx hy mask }
