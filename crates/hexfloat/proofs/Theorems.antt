-- The theorems of specs/Theorems.antt: the exact value decides, and there is one number that it gives.
use mathlib.Core.Path.{◌≡◌, sym, ap, ◌∙◌, subst⁻¹}
use mathlib.Core.Bool.{Bool, true, false}
use mathlib.Core.Logic.{◌⊎◌, inl, inr, ⊎_elim}
use Prim.Native.Nat.{ℕ, suc, ◌*◌, ◌+◌, ◌/◌, ◌^◌, ◌≤◌, ◌<◌}
use native.Mathlib.Nat.{le_trans, le_of_eq, lt_of_lt_of_le, lt_of_le_of_lt, lt_of_mul-lt-mul_right, not-le_of_lt, ne_of_gt, mul-pos, mul-le-mul_left, one-mul, zero-mul, eq-zero-or-pos}
use native.Mathlib.Omega.{arith}
use borrow.Author.Tests.{eq-eqb, ne_eqb}
use Rattle.hexfloat.specs.declared.word.Parts.{Parts}
use Rattle.hexfloat.specs.Answer.{Answer, gives, stops}
use Rattle.hexfloat.specs.Result.{result_of, underflow}
use Rattle.hexfloat.specs.Word.{magnitude, true_zero}
use Rattle.hexfloat.specs.Normal.{characteristic_of, IsCharacteristic, IsBelowZero, IsFraction}
use Rattle.hexfloat.specs.Convert.{fixed_magnitude, word_magnitude, float_parts}
use Rattle.hexfloat.specs.Theorems.{OneNumber, ExactResult, ExactQuotient, ExactFixed, ExactFloat}
use Rattle.hexfloat.proofs.Answers.{gives_inj, stops_inj, never}
use Rattle.hexfloat.proofs.Digits.{pos, mono}
use Rattle.hexfloat.proofs.Results.{of_zero, too_large, too_small, number, by_zero, by_some}
use Rattle.hexfloat.proofs.Ratio.{characteristic_unique, characteristic_is, fraction_unique, fraction_is, cut_is, cut_unique, above, not_above, below, not_below, below-zero}
use Rattle.hexfloat.proofs.Converted as converted
use Rattle.hexfloat.proofs.Trichotomy.{below_or_not}

pub one_number : (d a b : ℕ) → 0 < a → 0 < b → OneNumber d a b
one_number d a b ha hb = record {
  some = ⊎_elim (λ h. inr (below-zero ha h)) (λ h. inl (characteristic_of a b, characteristic_is hb h)) (below_or_not (a * 16 ^ 65) b);
  apart = λ c k hk r s. not-le_of_lt (below s hk) (not_below r);
  one_characteristic = λ c c' r r'. sym (characteristic_unique hb r) ∙ characteristic_unique hb r';
  some_fraction = λ c. let r = cut_is (a * 16 ^ (64 + d)) (16 ^ c * b) (mul-pos (pos c) hb) in (a * 16 ^ (64 + d) / (16 ^ c * b), record { least = r.0; most = r.1 });
  one_fraction = λ c f f' r r'. sym (cut_unique (a * 16 ^ (64 + d)) (16 ^ c * b) f r.least r.most) ∙ cut_unique (a * 16 ^ (64 + d)) (16 ^ c * b) f' r'.least r'.most;
}

-- a ratio with a lower bound is not zero
some_ratio : (k : ℕ) {a b : ℕ} → 0 < b → b ≤ a * 16 ^ k → 0 < a
some_ratio k {a} {b} hb h = lt_of_mul-lt-mul_right (16 ^ k) (lt_of_le_of_lt (le_of_eq (zero-mul (16 ^ k))) (lt_of_lt_of_le hb h))

-- a characteristic's ratio has a fraction that is not zero
fraction_some : {d a b c f : ℕ} → 0 < d → IsCharacteristic a b c → IsFraction d a b c f → 0 < f
fraction_some {d} {a} {b} {c} {f} hd r s =
    ⊎_elim (λ e. absurd (not-le_of_lt s.most (le_trans (le_of_eq (ap (λ (x : ℕ). suc x * (16 ^ c * b)) e ∙ one-mul (16 ^ c * b))) (le_trans r.least (mul-le-mul_left a (mono (more_digits hd))))))) (λ p. p) (eq-zero-or-pos f)
  where
    more_digits : 0 < d → 65 ≤ 64 + d
    more_digits h = omega arith

-- the answers of an underflow and of an overflow are apart
nine_not_ten : ◌≡◌ {A = Answer Parts} (stops 9) (stops 10) → ⊥
nine_not_ten e = let z : ◌≡◌ {A = ℕ} 9 10 = stops_inj e in omega arith

not_nine : (mask : Bool) → underflow mask ≡ stops 9 → ⊥
not_nine true e = nine_not_ten (sym e)
not_nine false e = never (sym e)

-- the result of a ratio, and no other answer
module _ (d : ℕ) (mask : Bool) (sign a b : ℕ) (hb : 0 < b) where
  overflows : (c : ℕ) → IsCharacteristic a b c → 127 < c → result_of d mask sign a b ≡ stops 9
  overflows c r h = too_large d mask sign a b (some_ratio 65 hb (not_below r)) (above r h)

  underflows : (k : ℕ) → 0 < k → IsBelowZero a b k → result_of d mask sign a b ≡ underflow mask
  underflows k hk r = too_small d mask sign a b (some_ratio (65 + k) hb r.least) (below r hk)

  cut : (c f : ℕ) → IsCharacteristic a b c → c ≤ 127 → IsFraction d a b c f → result_of d mask sign a b ≡ gives (record { sign = sign; characteristic = c; fraction = f })
  cut c f r h s =
      number d mask sign a b (some_ratio 65 hb (not_below r)) c f (not_above r h) (not_below r) (characteristic_unique hb r) (fraction_unique d (characteristic_unique hb r) s)

  -- what holds of each answer that the ratio may have holds of its result
  pub result_cases : (P : Answer Parts → Type 0)
      → (a ≡ 0 → P (gives true_zero))
      → ((c : ℕ) → IsCharacteristic a b c → 127 < c → P (stops 9))
      → ((k : ℕ) → 0 < k → IsBelowZero a b k → P (underflow mask))
      → ((c f : ℕ) → IsCharacteristic a b c → c ≤ 127 → IsFraction d a b c f → P (gives (record { sign = sign; characteristic = c; fraction = f })))
      → P (result_of d mask sign a b)
  result_cases P none large small within = ⊎_elim (λ e. subst⁻¹ P (of_zero d mask sign a b e) (none e)) some (eq-zero-or-pos a)
    where
      kept : (c : ℕ) → IsCharacteristic a b c → c ≤ 127 → P (result_of d mask sign a b)
      kept c r h =
          let f = cut_is (a * 16 ^ (64 + d)) (16 ^ c * b) (mul-pos (pos c) hb) in
          let s : IsFraction d a b c (a * 16 ^ (64 + d) / (16 ^ c * b)) = record { least = f.0; most = f.1 } in
          subst⁻¹ P (cut c _ r h s) (within c _ r h s)

      by_characteristic : (c : ℕ) → IsCharacteristic a b c → P (result_of d mask sign a b)
      by_characteristic c r = ⊎_elim (λ h. subst⁻¹ P (overflows c r h) (large c r h)) (kept c r) (below_or_not 127 c)

      some : 0 < a → P (result_of d mask sign a b)
      some ha =
          ⊎_elim (λ q. by_characteristic q.0 q.1) (λ q. subst⁻¹ P (underflows q.0 q.1 q.2) (small q.0 q.1 q.2))
          (one_number d a b ha hb).some

pub exact_result : (d : ℕ) (mask : Bool) (sign a b : ℕ) → 0 < b → ExactResult d mask sign a b
exact_result d mask sign a b hb = record {
  zero = of_zero d mask sign a b;
  overflows = overflows d mask sign a b hb;
  underflows = underflows d mask sign a b hb;
  cut = cut d mask sign a b hb;
  overflows_only =
      result_cases d mask sign a b hb (λ r. r ≡ stops 9 → (c : ℕ) × IsCharacteristic a b c × (127 < c))
      (λ z e. never (sym e)) (λ c r h e. (c, r, h)) (λ k hk r e. absurd (not_nine mask e)) (λ c f r h s e. never (sym e));
  underflows_only =
      result_cases d mask sign a b hb (λ r. r ≡ stops 10 → (k : ℕ) × (0 < k) × IsBelowZero a b k)
      (λ z e. never (sym e)) (λ c r h e. absurd (nine_not_ten e)) (λ k hk r e. (k, hk, r)) (λ c f r h s e. never (sym e));
  zero_only = λ hd.
      result_cases d mask sign a b hb (λ r. r ≡ gives true_zero → (a ≡ 0) ⊎ ((k : ℕ) × (0 < k) × IsBelowZero a b k))
      (λ z e. inl z) (λ c r h e. never e) (λ k hk r e. inr (k, hk, r))
      (λ c f r h s e. absurd (not-le_of_lt (fraction_some hd r s) (le_of_eq (ap (λ (p : Parts). p.fraction) (gives_inj e)))));
}

pub exact_quotient : (d : ℕ) (mask : Bool) (x y : Parts) → ExactQuotient d mask x y
exact_quotient d mask x y = record { zero_divisor = by_zero d mask x y; ratio = by_some d mask x y }

pub exact_fixed : (p : Parts) → ExactFixed p
unfolding fixed_magnitude
exact_fixed p =
    let r = cut_is (magnitude 6 p) (16 ^ 74) (pos 74) in
    record { least = r.0; most = r.1; only = λ m l h. cut_unique (magnitude 6 p) (16 ^ 74) m l h }

pub exact_float : (w : ℕ) → ExactFloat w
unfolding float_parts
exact_float w = record {
  zero = λ e. rw (eq-eqb (word_magnitude w) 0 e);
  characteristic = λ h. rw (ne_eqb (word_magnitude w) 0 (ne_of_gt h)) (is h);
  fraction = λ h. rw (ne_eqb (word_magnitude w) 0 (ne_of_gt h)) (fraction_is 6 (pos 4));
  only = λ h c f r s.
      let e : characteristic_of (word_magnitude w) 65536 ≡ c = characteristic_unique (pos 4) r in
      rw (ne_eqb (word_magnitude w) 0 (ne_of_gt h)) (λ i. record { sign = w / 2 ^ 31; characteristic = e i; fraction = fraction_unique 6 e s i });
}
  where
    is : 0 < word_magnitude w → IsCharacteristic (word_magnitude w) 65536 (characteristic_of (word_magnitude w) 65536)
    is h = rw (converted.characteristic (word_magnitude w) h) (converted.is (word_magnitude w) h)
