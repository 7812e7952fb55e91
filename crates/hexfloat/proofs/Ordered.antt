-- The theorems on compares of specs/Theorems.antt: those of aligned fractions over the digits d and the guard digits g.
use mathlib.Core.Path.{◌≡◌, refl, sym, ap, ◌∙◌}
use mathlib.Core.Logic.{◌⊎◌, ⊎_elim}
use Prim.Native.Nat.{ℕ, ◌+◌, ◌-◌, ◌*◌, ◌%◌, ◌^◌, ◌≤◌, ◌<◌}
use native.Mathlib.Nat.{le_trans, le_of_eq, le_of_lt, lt_of_lt_of_le, lt_of_le_of_lt, lt_of_not-le, not-le_of_lt, lt_of_mul-lt-mul_right, mul-le-mul_left, mul-le-mul_right, mul-lt-mul_of_pos_right, mul_right_comm, zero-mul, mod-one, div-mul-le_self, eq_of_mul-eq-mul_right, eq-zero-or-pos}
use native.Mathlib.Omega.{arith}
use Rattle.hexfloat.specs.declared.word.Parts.{Parts}
use Rattle.hexfloat.specs.declared.word.Width.{Width}
use Rattle.hexfloat.specs.declared.word.Width.TheVariants.{Short, Long}
use Rattle.hexfloat.specs.declared.word.Words.{Words}
use Rattle.hexfloat.specs.Align.{common_characteristic, aligned}
use Rattle.hexfloat.specs.Compare.{rank_condition, above, below, signed_rank, compared, compared_aligned, compared_by, compared_words}
use Rattle.hexfloat.specs.Theorems.{DropsZeros, ZeroOrNormalised, AlignedOrder, LongCompare, opposite, CompareLaws}
use Rattle.hexfloat.specs.Word.{parts_of, long_parts, magnitude}
use Rattle.hexfloat.proofs.Aligned.{common_first, common_second, common_left, common_right, common_swapped, aligned_level, aligned_some, aligned_kept, aligned_mono}
use Rattle.hexfloat.proofs.Compared.{alike_rank, by_signs}
use Rattle.hexfloat.proofs.Digits.{pos, mono}
use Rattle.hexfloat.proofs.Keys.{ranks_below, ranks_level, ranks_above, level_or_same}
use Rattle.hexfloat.proofs.Sums.{exact_alignment}
use Rattle.hexfloat.proofs.Trichotomy.{Trichotomy, less, same, more, trichotomy}

-- a normalised number has d digits, and one that has a characteristic is not zero
normalised_most : (d : ℕ) (p : Parts) → ZeroOrNormalised d p → p.fraction < 16 ^ d
normalised_most d p n = ⊎_elim (λ e. lt_of_le_of_lt (le_of_eq (ap (λ (q : Parts). q.fraction) e)) (pos d)) (λ r. r.most) n

normalised-least : (d : ℕ) (p : Parts) → 0 < p.characteristic → ZeroOrNormalised d p → 16 ^ d ≤ p.fraction * 16
normalised-least d p h n = ⊎_elim (λ e. absurd (not-le_of_lt h (le_of_eq (ap (λ (q : Parts). q.characteristic) e)))) (λ r. r.least) n

-- of two normalised numbers the one with the larger characteristic has the larger fraction after alignment
apart : (d g : ℕ) {c : ℕ} (x y : Parts) → ZeroOrNormalised d x → ZeroOrNormalised d y → x.characteristic < c → c ≡ y.characteristic → aligned g c x < aligned g c y
unfolding aligned
apart d g {c} x y nx ny h e =
    lt_of_mul-lt-mul_right 16
    (lt_of_le_of_lt (le_trans (mul-le-mul_left (aligned g c x) (mono {i = 1} (omega arith))) (div-mul-le_self (x.fraction * 16 ^ g) (16 ^ (c - x.characteristic))))
    (lt_of_lt_of_le (mul-lt-mul_of_pos_right (normalised_most d x nx) (pos g))
    (le_trans (mul-le-mul_right (16 ^ g) (normalised-least d y (omega arith) ny))
    (le_of_eq (mul_right_comm y.fraction 16 (16 ^ g) ∙ ap (λ (k : ℕ). k * 16) (sym (aligned_level g c y e)))))))

module _ (d g : ℕ) (x y : Parts) where
  abbrev c : ℕ
  c = common_characteristic x y

  abbrev u : ℕ
  u = aligned g c x

  abbrev v : ℕ
  v = aligned g c y

  abbrev unit : ℕ
  unit = 16 ^ (c + (14 - d))

  -- aligned fractions that differ have magnitudes that differ the same way
  first_less : u < v → magnitude d x < magnitude d y
  first_less h = lt_of_not-le (λ (l : magnitude d y ≤ magnitude d x). not-le_of_lt h (aligned_mono d g y x (common_right x y) (common_left x y) l))

  second_less : v < u → magnitude d y < magnitude d x
  second_less h = lt_of_not-le (λ (l : magnitude d x ≤ magnitude d y). not-le_of_lt h (aligned_mono d g x y (common_left x y) (common_right x y) l))

  some : 0 < u + v → 0 < magnitude d x + magnitude d y
  some h =
      ⊎_elim (λ e. omega (arith, aligned_some g c y d (common_right x y) (omega arith))) (λ p. omega (arith, aligned_some g c x d (common_left x y) p))
      (eq-zero-or-pos u)

  equal_or_exact : (compared_aligned g x y ≡ 0) ⊎ (compared_aligned g x y ≡ compared d x y)
  unfolding compared_aligned compared
  equal_or_exact =
      by_signs (λ (k l : ℕ). (k ≡ 0) ⊎ (k ≡ l)) x.sign y.sign u v (magnitude d x) (magnitude d y)
      (level_or_same u v (magnitude d x) (magnitude d y) first_less second_less)
      (level_or_same v u (magnitude d y) (magnitude d x) second_less first_less)
      (level_or_same (u + v) 0 (magnitude d x + magnitude d y) 0 (λ h. omega arith) some)
      (level_or_same 0 (u + v) 0 (magnitude d x + magnitude d y) some (λ h. omega arith))

  -- so the rules agree where fractions that are equal, or both nothing, have such magnitudes
  agree : (u ≡ v → magnitude d x ≡ magnitude d y) → (u + v ≡ 0 → magnitude d x + magnitude d y ≡ 0) → compared_aligned g x y ≡ compared d x y
  unfolding compared_aligned compared
  agree level none = alike_rank (record { less = first_less; same = level; more = second_less; none = none; some = some }) x.sign y.sign

  -- as they have where the fractions differ ..
  agree_apart : (u ≡ v → ⊥) → compared_aligned g x y ≡ compared d x y
  agree_apart differ = agree (λ e. absurd (differ e)) (λ e. absurd (differ (omega arith)))

  -- .. and where nothing but zeros is dropped
  agree_kept : DropsZeros g x y → compared_aligned g x y ≡ compared d x y
  agree_kept z = agree (λ e. cancel _ _ (sym first_kept ∙ ap (λ (k : ℕ). k * unit) e ∙ second_kept)) (λ e. omega (arith, nothing first_kept (omega arith), nothing second_kept (omega arith)))
    where
      first_kept : u * unit ≡ magnitude d x * 16 ^ g
      first_kept = aligned_kept g c x d (common_left x y) z.first

      second_kept : v * unit ≡ magnitude d y * 16 ^ g
      second_kept = aligned_kept g c y d (common_right x y) z.second

      cancel : (m n : ℕ) → m * 16 ^ g ≡ n * 16 ^ g → m ≡ n
      cancel m n = eq_of_mul-eq-mul_right (16 ^ g) (pos g) m n

      nothing : {k m : ℕ} → k * unit ≡ m * 16 ^ g → k ≡ 0 → m ≡ 0
      nothing {k} {m} kept e = cancel m 0 (sym kept ∙ ap (λ (i : ℕ). i * unit) e ∙ zero-mul unit ∙ sym (zero-mul (16 ^ g)))

  level_drops : x.characteristic ≡ y.characteristic → DropsZeros g x y
  level_drops e =
      let first : c ≡ x.characteristic = common_first x y (le_of_eq (sym e)) in
      record { first = unmoved (x.fraction * 16 ^ g) (omega arith); second = unmoved (y.fraction * 16 ^ g) (omega arith) }
    where
      unmoved : (f : ℕ) {k : ℕ} → k ≡ 0 → f % 16 ^ k ≡ 0
      unmoved f e = ap (λ (k : ℕ). f % 16 ^ k) e ∙ mod-one f

  agree_normalised : ZeroOrNormalised d x → ZeroOrNormalised d y → compared_aligned g x y ≡ compared d x y
  agree_normalised nx ny = go (trichotomy x.characteristic y.characteristic)
    where
      go : Trichotomy x.characteristic y.characteristic → compared_aligned g x y ≡ compared d x y
      go (same e) = agree_kept (level_drops e)
      go (less h) =
          let e : c ≡ y.characteristic = common_second x y h in
          agree_apart (λ l. omega (arith, apart d g x y nx ny (omega arith) e))
      go (more h) =
          let e : c ≡ x.characteristic = common_first x y (le_of_lt h) in
          agree_apart (λ l. omega (arith, apart d g y x ny nx (omega arith) e))

pub aligned-order : (d g : ℕ) (x y : Parts) → AlignedOrder d g x y
aligned-order d g x y = record {
  first = exact_alignment d g (common_characteristic x y) x (common_left x y);
  second = exact_alignment d g (common_characteristic x y) y (common_right x y);
  equal_or_exact = equal_or_exact d g x y;
  nothing_dropped = agree_kept d g x y;
  normalised = agree_normalised d g x y;
}

pub long_compare : (a b : Words) → LongCompare a b
unfolding compared_words
long_compare a b = record {
  rule = refl;
  order = aligned-order 14 2 (long_parts a) (long_parts b);
  agree = (aligned-order 14 2 (long_parts a) (long_parts b)).normalised;
}

-- the operands interchanged
turned : (x y : ℕ) → rank_condition y x ≡ opposite (rank_condition x y)
turned x y = go (trichotomy x y)
  where
    go : Trichotomy x y → rank_condition y x ≡ opposite (rank_condition x y)
    go (less h) = rw (ranks_above y x h, ranks_below x y h)
    go (same e) = rw (ranks_level y x (sym e), ranks_level x y e)
    go (more h) = rw (ranks_below y x h, ranks_above x y h)

signed_turned : (s m t n : ℕ) → signed_rank t n s m ≡ opposite (signed_rank s m t n)
signed_turned s m t n = turned (above s m + below t n) (above t n + below s m)

aligned_turned : (g : ℕ) (x y : Parts) → compared_aligned g y x ≡ opposite (compared_aligned g x y)
unfolding compared_aligned
aligned_turned g x y =
    ap (λ (k : ℕ). signed_rank y.sign (aligned g k y) x.sign (aligned g k x)) (common_swapped y x)
    ∙ signed_turned x.sign (aligned g (common_characteristic x y) x) y.sign (aligned g (common_characteristic x y) y)

-- a number against itself
signed_itself : (s m : ℕ) → signed_rank s m s m ≡ 0
signed_itself s m = ranks_level (above s m + below s m) (above s m + below s m) refl

by_width : (w : Width) (x y : Parts) → (compared_by w y x ≡ opposite (compared_by w x y)) × (compared_by w x x ≡ 0)
unfolding compared compared_aligned
by_width Short x y = (signed_turned x.sign (magnitude 6 x) y.sign (magnitude 6 y), signed_itself x.sign (magnitude 6 x))
by_width Long x y = (aligned_turned 2 x y, signed_itself x.sign (aligned 2 (common_characteristic x x) x))

pub compare_laws : (w : Width) (a b : Words) → CompareLaws w a b
unfolding compared_words
compare_laws w a b =
    let laws = by_width w (parts_of w a) (parts_of w b) in
    record { interchanged = laws.0; itself = laws.1 }
