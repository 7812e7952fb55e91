-- A word to float and back: CVFX of what CVFL gives has the word's first six digits and its sign.
use mathlib.Core.Path.{◌≡◌, refl, sym, ap, ap₂, ◌∙◌, subst}
use mathlib.Core.Logic.{⊎_elim}
use Prim.Native.Nat.{ℕ, ◌+◌, ◌-◌, ◌*◌, ◌/◌, ◌%◌, ◌^◌, ◌≤◌, ◌<◌}
use native.Mathlib.Nat.{ne_of_gt, le_trans, le_of_eq, lt_of_le_of_lt, eq-zero-or-pos, mul-div_cancel, mul-div-mul_right, div-div-eq-div-mul}
use native.Mathlib.Omega.{arith}
use borrow.Author.Tests.{ne_eqb, eq-eqb}
use lib.Pow.{pow-add}
use Rattle.hexfloat.specs.declared.word.Parts.{Parts}
use Rattle.hexfloat.specs.Answer.{gives}
use Rattle.hexfloat.specs.Normal.{digits, characteristic_of, fraction_of}
use Rattle.hexfloat.specs.Word.{short_parts, short_word}
use Rattle.hexfloat.specs.Condition.{condition_by}
use Rattle.hexfloat.specs.Convert.{fixed_magnitude, signed_word, fixed_coded, word_magnitude, float_parts, to_fixed, to_float}
use Rattle.hexfloat.specs.Operand.{Operand}
use Rattle.hexfloat.specs.RoundTrip.{cut_to, homed}
use Rattle.hexfloat.specs.Theorems.{RoundTrip}
use Rattle.hexfloat.proofs.Converted.{fixed_left, fixed_right, fixed, fixed_of_zero, word-zero, positive_word, negative_word, magnitude_within, some_bits, characteristic, first_six}
use Rattle.hexfloat.proofs.Cut.{cut_le, cut_none, cut_positive, cut_again, cut_nothing, cut_nothing_only}
use Rattle.hexfloat.proofs.Digits.{pos, digits-zero}
use Rattle.hexfloat.proofs.Fits.{float_fits}
use Rattle.hexfloat.proofs.Trichotomy.{below_or_not}

-- a short word of given parts has them
parts_again : {p : Parts} → Operand 6 p → short_parts (short_word p) ≡ p
parts_again {p} o = λ i. record { sign = s i; characteristic = c i; fraction = f i }
  where
    s : short_word p / 2 ^ 31 ≡ p.sign
    s = omega (arith, o.characteristic, o.fraction)

    c : short_word p / 2 ^ 24 % 128 ≡ p.characteristic
    c = omega (arith, o.characteristic, o.fraction)

    f : short_word p % 2 ^ 24 ≡ p.fraction
    f = omega (arith, o.fraction)

-- what CVFX gives for a word of parts that are known
fixed_parts : (v : ℕ) (p : Parts) → short_parts v ≡ p → fixed_magnitude p < 2 ^ 31 + p.sign → to_fixed v ≡ gives (fixed_coded (signed_word p.sign (fixed_magnitude p)))
fixed_parts v p e = subst (λ (q : Parts). fixed_magnitude q < 2 ^ 31 + q.sign → to_fixed v ≡ gives (fixed_coded (signed_word q.sign (fixed_magnitude q)))) e (fixed v)

-- a magnitude that is not zero, as a short number of its first six digits
module _ (m : ℕ) (h : 0 < m) (p : Parts) (place : p.characteristic ≡ characteristic_of m 65536) (six : p.fraction ≡ fraction_of 6 m 65536) where
  there : p.characteristic ≡ 60 + digits m
  there = place ∙ characteristic m h

  -- comes back as these digits
  six_digits : fixed_magnitude p ≡ cut_to 6 m
  unfolding cut_to
  six_digits = ⊎_elim many few (below_or_not 6 (digits m))
    where
      few : digits m ≤ 6 → fixed_magnitude p ≡ cut_to 6 m
      few l =
          let e : digits m + (66 - p.characteristic) ≡ 6 = omega (arith, there) in
          fixed_right p (omega (arith, there))
          ∙ ap (λ (u : ℕ). u / 16 ^ (66 - p.characteristic)) (six ∙ first_six m h)
          ∙ div-div-eq-div-mul (m * 16 ^ 6) (16 ^ digits m) (16 ^ (66 - p.characteristic))
          ∙ ap (λ (u : ℕ). m * 16 ^ 6 / u) (sym (pow-add 16 (digits m) (66 - p.characteristic)) ∙ ap (λ (u : ℕ). 16 ^ u) e)
          ∙ mul-div_cancel m (pos 6)
          ∙ sym (cut_none 6 m l)

      many : 6 < digits m → fixed_magnitude p ≡ cut_to 6 m
      many l =
          let e : digits m ≡ digits m - 6 + 6 = omega arith in
          let k : p.characteristic - 66 ≡ digits m - 6 = omega (arith, there) in
          fixed_left p (omega (arith, there))
          ∙ ap₂ (λ (u v : ℕ). u * 16 ^ v)
          (six ∙ first_six m h ∙ ap (λ (u : ℕ). m * 16 ^ 6 / u) (ap (λ (u : ℕ). 16 ^ u) e ∙ pow-add 16 (digits m - 6) 6) ∙ mul-div-mul_right m (16 ^ (digits m - 6)) (pos 6))
          k

module _ (w : ℕ) where
  -- zero comes back as zero
  returns_none : word_magnitude w ≡ 0 → to_fixed (to_float w).word ≡ gives (fixed_coded (homed w))
  unfolding to_float float_parts homed condition_by
  returns_none e =
      let cut : cut_to 6 (word_magnitude w) ≡ 0 = cut_none 6 (word_magnitude w) (rw (e, digits-zero) (omega arith)) ∙ e in
      let back : signed_word (w / 2 ^ 31) (cut_to 6 (word_magnitude w)) ≡ 0 = ap (signed_word (w / 2 ^ 31)) cut ∙ word-zero (w / 2 ^ 31) in
      rw (eq-eqb (word_magnitude w) 0 e, back) (fixed_of_zero 0 refl)

  -- any other word by its first six digits
  returns_some : 0 < word_magnitude w → to_fixed (to_float w).word ≡ gives (fixed_coded (homed w))
  unfolding to_float float_parts homed
  returns_some h =
      let m = word_magnitude w in
      let p : Parts = record { sign = w / 2 ^ 31; characteristic = characteristic_of m 65536; fraction = fraction_of 6 m 65536 } in
      let e : float_parts w ≡ p = rw (ne_eqb m 0 (ne_of_gt h)) in
      let cut : fixed_magnitude p ≡ cut_to 6 m = six_digits m h p refl refl in
      rw e
      (fixed_parts (short_word p) p (parts_again (subst (Operand 6) e (float_fits w (some_bits w h)))) (lt_of_le_of_lt (le_trans (le_of_eq cut) (cut_le 6 m)) (magnitude_within w))
      ∙ ap (λ (c : ℕ). gives (fixed_coded (signed_word (w / 2 ^ 31) c))) cut)

  sign_positive : w < 2 ^ 31 → w / 2 ^ 31 ≡ 0
  sign_positive l = omega arith

  sign_negative : 2 ^ 31 ≤ w → w < 2 ^ 32 → w / 2 ^ 31 ≡ 1
  sign_negative l u = omega arith

  -- what comes back, by the half that the word is in
  homed-positive : w < 2 ^ 31 → homed w ≡ cut_to 6 w
  unfolding homed
  homed-positive l = rw (positive_word w l, sign_positive l)

  module _ (l : 2 ^ 31 ≤ w) (u : w < 2 ^ 32) where
    homed-negative : homed w ≡ 2 ^ 32 - cut_to 6 (2 ^ 32 - w)
    unfolding homed
    homed-negative = rw (negative_word w l, sign_negative l u) (in_range (cut_to 6 (2 ^ 32 - w)) (cut_positive 6 (2 ^ 32 - w) (omega arith) (omega arith)))
      where
        in_range : (c : ℕ) → 0 < c → (2 ^ 32 - c) % 2 ^ 32 ≡ 2 ^ 32 - c
        in_range c p = omega arith

    negative_sign : homed w / 2 ^ 31 ≡ w / 2 ^ 31
    negative_sign =
        rw homed-negative (omega (arith, cut_le 6 (2 ^ 32 - w), cut_positive 6 (2 ^ 32 - w) (omega arith) (omega arith)))

    negative_cut : word_magnitude (homed w) ≡ cut_to 6 (word_magnitude w)
    negative_cut =
        let c = cut_to 6 (2 ^ 32 - w) in
        rw (negative_word w l, homed-negative, negative_word (2 ^ 32 - c) (omega (arith, cut_le 6 (2 ^ 32 - w))))
        (back c (omega (arith, cut_le 6 (2 ^ 32 - w))))
      where
        back : (c : ℕ) → c ≤ 2 ^ 32 → 2 ^ 32 - (2 ^ 32 - c) ≡ c
        back c p = omega arith

  homed_sign : w < 2 ^ 32 → homed w / 2 ^ 31 ≡ w / 2 ^ 31
  homed_sign u = ⊎_elim (λ l. rw (homed-positive l) (omega (arith, cut_le 6 w))) (λ l. negative_sign l u) (below_or_not w (2 ^ 31))

  homed_cut : w < 2 ^ 32 → word_magnitude (homed w) ≡ cut_to 6 (word_magnitude w)
  homed_cut u =
      ⊎_elim (λ l. rw (positive_word w l, homed-positive l, positive_word (cut_to 6 w) (lt_of_le_of_lt (cut_le 6 w) l))) (λ l. negative_cut l u)
      (below_or_not w (2 ^ 31))

  -- a word is that of its sign and its magnitude
  word_again : w < 2 ^ 32 → signed_word (w / 2 ^ 31) (word_magnitude w) ≡ w
  word_again u =
      ⊎_elim (λ l. rw (sign_positive l, positive_word w l)) (λ l. rw (sign_negative l u, negative_word w l) (omega arith))
      (below_or_not w (2 ^ 31))

  pub round_trip : RoundTrip w
  unfolding homed
  round_trip = record {
    returns = ⊎_elim returns_none returns_some (eq-zero-or-pos (word_magnitude w));
    sign = homed_sign;
    cut = homed_cut;
    unaltered = λ u z. ap (signed_word (w / 2 ^ 31)) (cut_nothing 6 (word_magnitude w) z) ∙ word_again u;
    unaltered_only = λ u e. cut_nothing_only 6 (word_magnitude w) (sym (homed_cut u) ∙ ap word_magnitude e);
    again = λ u. ap₂ (λ (s c : ℕ). signed_word s c) (homed_sign u) (ap (cut_to 6) (homed_cut u) ∙ cut_again 6 (word_magnitude w) (omega arith));
  }
