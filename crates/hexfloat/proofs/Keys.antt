-- The key of an operand ranks as its exact magnitude does.
use mathlib.Core.Path.{◌≡◌, sym, ap, ap₂, ◌∙◌}
use mathlib.Core.Logic.{◌⊎◌, inl, inr, ⊎_elim}
use Prim.Native.Nat.{ℕ, ◌+◌, ◌*◌, ◌^◌, ◌<◌}
use native.Mathlib.Nat.{le_refl, le_of_lt, le-add_right, not-le_of_lt, add-lt-add_of_le_of_lt, suc-mul, le_trans, le_of_eq, lt_of_lt_of_le, lt_of_le_of_lt, eq-zero-or-pos, eq_of_mul-eq-mul_right, lt_of_mul-lt-mul_right, mul-lt-mul_of_pos_right, mul-le-mul_left, mul-le-mul_right, mul_assoc, pow-succ'}
use native.Mathlib.Omega.{arith}
use borrow.Author.Tests.{lt-ltb, le-ltb, eq-eqb, ne_eqb}
use Rattle.hexfloat.specs.declared.word.Parts.{Parts}
use Rattle.hexfloat.specs.Word.{magnitude}
use Rattle.hexfloat.specs.Condition.{condition_by}
use Rattle.hexfloat.specs.Compare.{rank_condition}
use Rattle.hexfloat.specs.Operand.{Operand, normalised, magnitude_key}
use Rattle.hexfloat.proofs.Digits.{pos, mono}
use Rattle.hexfloat.proofs.Normalised.{normal_most, normal_least, normal_exact, magnitude_positive, magnitude-zero}
use Rattle.hexfloat.proofs.Trichotomy.{Trichotomy, less, same, more, trichotomy}

-- how two numbers stand gives their condition
module _ (x y : ℕ) where
  pub ranks_below : x < y → rank_condition x y ≡ 3
  unfolding condition_by
  ranks_below h = rw (ne_eqb x y (λ e. omega arith), le-ltb y x (omega arith))

  pub ranks_level : x ≡ y → rank_condition x y ≡ 0
  unfolding condition_by
  ranks_level h = rw (eq-eqb x y h)

  pub ranks_above : y < x → rank_condition x y ≡ 1
  unfolding condition_by
  ranks_above h = rw (ne_eqb x y (λ e. omega arith), lt-ltb y x h)

-- so numbers that rank alike have one
pub same_rank : (x y x' y' : ℕ) → (x < y → x' < y') → (x ≡ y → x' ≡ y') → (y < x → y' < x') → rank_condition x y ≡ rank_condition x' y'
same_rank x y x' y' l e m = go (trichotomy x y)
  where
    go : Trichotomy x y → rank_condition x y ≡ rank_condition x' y'
    go (less h) = rw (ranks_below x y h, ranks_below x' y' (l h))
    go (same h) = rw (ranks_level x y h, ranks_level x' y' (e h))
    go (more h) = rw (ranks_above x y h, ranks_above x' y' (m h))

-- and numbers that rank alike or are level have it, or that of level numbers
pub level_or_same : (x y x' y' : ℕ) → (x < y → x' < y') → (y < x → y' < x') → (rank_condition x y ≡ 0) ⊎ (rank_condition x y ≡ rank_condition x' y')
level_or_same x y x' y' l m = go (trichotomy x y)
  where
    go : Trichotomy x y → (rank_condition x y ≡ 0) ⊎ (rank_condition x y ≡ rank_condition x' y')
    go (less h) = inr (rw (ranks_below x y h, ranks_below x' y' (l h)))
    go (same h) = inl (ranks_level x y h)
    go (more h) = inr (rw (ranks_above x y h, ranks_above x' y' (m h)))

-- the first place decides, then the rest
lexical : (m p f p' f' : ℕ) → f < m → f' < m → p * m + f < p' * m + f' → (p < p') ⊎ ((p ≡ p') × (f < f'))
lexical m p f p' f' h h' l = go (trichotomy p p')
  where
    lt_of_add : p' * m + f < p' * m + f' → f < f'
    lt_of_add q = omega arith

    go : Trichotomy p p' → (p < p') ⊎ ((p ≡ p') × (f < f'))
    go (less a) = inl a
    go (same e) = inr (e, lt_of_add (rw e at l))
    go (more a) = absurd (not-le_of_lt l (le_trans (le_of_lt (add-lt-add_of_le_of_lt (le_refl (p' * m)) h')) (le_trans (le_of_eq (sym (suc-mul p' m))) (le_trans (mul-le-mul_right m a) (le-add_right (p * m) f)))))

module _ {d : ℕ} {p : Parts} (o : Operand d p) where
  key_zero : p.fraction ≡ 0 → magnitude_key d p ≡ 0
  unfolding magnitude_key
  key_zero e = rw (eq-eqb p.fraction 0 e)

  key_some : 0 < p.fraction → magnitude_key d p ≡ (normalised d p).place * 2 ^ 56 + (normalised d p).fraction
  unfolding magnitude_key
  key_some h = rw (ne_eqb p.fraction 0 (λ e. omega arith))

  key_positive : 0 < p.fraction → 0 < magnitude_key d p
  key_positive h = rw (key_some h) (omega (arith, normal_least o h, pos d))

  -- a key below 2^56 times the place, at 14 digits
  fraction_small : (normalised d p).fraction < 2 ^ 56
  fraction_small = lt_of_lt_of_le (normal_most o) (mono {j = 14} o.most)

  -- a key is zero where the magnitude is
  pub zero_key : magnitude_key d p ≡ 0 → magnitude d p ≡ 0
  zero_key e = ⊎_elim (magnitude-zero d p) (λ h. let no : ⊥ = omega (arith, key_positive h) in absurd no) (eq-zero-or-pos p.fraction)

  pub some_key : (magnitude_key d p ≡ 0 → ⊥) → 0 < magnitude d p
  some_key ne = ⊎_elim (λ e. absurd (ne (key_zero e))) (magnitude_positive o) (eq-zero-or-pos p.fraction)

module _ {d : ℕ} {x y : Parts} (ox : Operand d x) (oy : Operand d y) where
  pub key_less : magnitude_key d x < magnitude_key d y → magnitude d x < magnitude d y
  key_less l = ⊎_elim none some (eq-zero-or-pos y.fraction)
    where
      scaled : (normalised d x).fraction * 16 ^ (normalised d x).place < (normalised d y).fraction * 16 ^ (normalised d y).place → magnitude d x < magnitude d y
      scaled h = lt_of_mul-lt-mul_right (16 ^ d) (lt_of_le_of_lt (le_of_eq (normal_exact ox)) (lt_of_lt_of_le h (le_of_eq (sym (normal_exact oy)))))

      none : y.fraction ≡ 0 → magnitude d x < magnitude d y
      none e = let no : ⊥ = omega (arith, key_zero oy e) in absurd no

      far : 0 < y.fraction → (normalised d x).place < (normalised d y).place → (normalised d x).fraction * 16 ^ (normalised d x).place < (normalised d y).fraction * 16 ^ (normalised d y).place
      far hy p =
          lt_of_lt_of_le (mul-lt-mul_of_pos_right (normal_most ox) (pos (normalised d x).place))
          (le_trans (mul-le-mul_right (16 ^ (normalised d x).place) (normal_least oy hy))
          (le_trans (le_of_eq (mul_assoc (normalised d y).fraction 16 (16 ^ (normalised d x).place) ∙ ap (λ (z : ℕ). (normalised d y).fraction * z) (sym (pow-succ' 16 (normalised d x).place))))
          (mul-le-mul_left (normalised d y).fraction (mono p))))

      near : ((normalised d x).place ≡ (normalised d y).place) × ((normalised d x).fraction < (normalised d y).fraction) → (normalised d x).fraction * 16 ^ (normalised d x).place < (normalised d y).fraction * 16 ^ (normalised d y).place
      near w = lt_of_lt_of_le (mul-lt-mul_of_pos_right w.1 (pos (normalised d x).place)) (le_of_eq (ap (λ (z : ℕ). (normalised d y).fraction * 16 ^ z) w.0))

      both : 0 < y.fraction → 0 < x.fraction → magnitude d x < magnitude d y
      both hy hx =
          scaled (⊎_elim (far hy) near
          (lexical (2 ^ 56) (normalised d x).place (normalised d x).fraction (normalised d y).place (normalised d y).fraction (fraction_small ox) (fraction_small oy)
          (lt_of_le_of_lt (le_of_eq (sym (key_some ox hx))) (lt_of_lt_of_le l (le_of_eq (key_some oy hy))))))

      some : 0 < y.fraction → magnitude d x < magnitude d y
      some hy = ⊎_elim (λ e. lt_of_le_of_lt (le_of_eq (magnitude-zero d x e)) (magnitude_positive oy hy)) (both hy) (eq-zero-or-pos x.fraction)

  pub key_same : magnitude_key d x ≡ magnitude_key d y → magnitude d x ≡ magnitude d y
  key_same e = ⊎_elim none some (eq-zero-or-pos x.fraction)
    where
      none : x.fraction ≡ 0 → magnitude d x ≡ magnitude d y
      none f = magnitude-zero d x f ∙ sym (zero_key oy (sym e ∙ key_zero ox f))

      both : 0 < x.fraction → 0 < y.fraction → magnitude d x ≡ magnitude d y
      both hx hy =
          let k : (normalised d x).place * 2 ^ 56 + (normalised d x).fraction ≡ (normalised d y).place * 2 ^ 56 + (normalised d y).fraction = sym (key_some ox hx) ∙ e ∙ key_some oy hy in
          let p : (normalised d x).place ≡ (normalised d y).place = omega (arith, k, fraction_small ox, fraction_small oy) in
          let f : (normalised d x).fraction ≡ (normalised d y).fraction = omega (arith, k, fraction_small ox, fraction_small oy) in
          eq_of_mul-eq-mul_right (16 ^ d) (pos d) (magnitude d x) (magnitude d y) (normal_exact ox ∙ ap₂ (λ (u v : ℕ). u * 16 ^ v) f p ∙ sym (normal_exact oy))

      some : 0 < x.fraction → magnitude d x ≡ magnitude d y
      some hx = ⊎_elim (λ f. let no : ⊥ = omega (arith, key_positive ox hx, key_zero oy f) in absurd no) (both hx) (eq-zero-or-pos y.fraction)
