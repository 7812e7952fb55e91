-- Laws of signed numbers as a part above zero and a part below it.
use mathlib.Core.Path.{◌≡◌, refl}
use mathlib.Core.Bool.{Bool, true, false, cond}
use mathlib.Core.Logic.{⊎_elim}
use Prim.Native.Nat.{ℕ, ◌+◌, ◌-◌, ◌*◌, ◌≤◌, ◌<◌}
use lib.Dec.{ltb, eqb}
use native.Mathlib.Nat.{zero-mul, ne_of_gt, eq-zero-or-pos}
use native.Mathlib.Omega.{arith}
use borrow.Author.Tests.{eq-eqb, ne_eqb}
use Rattle.hexfloat.specs.Add.{signed}
use Rattle.hexfloat.specs.Compare.{above, below}

-- one part is the magnitude, the other 0
pub parts_whole : (s m : ℕ) → above s m + below s m ≡ m
parts_whole s m = cases (eqb s 0)
  where
    cases : (b : Bool) → cond b m 0 + cond b 0 m ≡ m
    cases true = omega arith
    cases false = omega arith

-- a part of nothing, and a part of what grows
pub above_zero : (s : ℕ) → above s 0 ≡ 0
above_zero s = omega (arith, parts_whole s 0)

pub below-zero : (s : ℕ) → below s 0 ≡ 0
below-zero s = omega (arith, parts_whole s 0)

pub above_scaled : (s m k : ℕ) → above s m * k ≡ above s (m * k)
above_scaled s m k = cases (eqb s 0)
  where
    cases : (b : Bool) → cond b m 0 * k ≡ cond b (m * k) 0
    cases true = refl
    cases false = zero-mul k

pub below_scaled : (s m k : ℕ) → below s m * k ≡ below s (m * k)
below_scaled s m k = cases (eqb s 0)
  where
    cases : (b : Bool) → cond b 0 m * k ≡ cond b 0 (m * k)
    cases true = zero-mul k
    cases false = refl

-- all of a number without a sign is above zero, and all of one with a sign below it
unsigned : (s m : ℕ) → s ≡ 0 → (above s m ≡ m) × (below s m ≡ 0)
unsigned s m e = rw (eq-eqb s 0 e) (refl, refl)

negated : (s m : ℕ) → 0 < s → (above s m ≡ 0) × (below s m ≡ m)
negated s m h = rw (ne_eqb s 0 (ne_of_gt h)) (refl, refl)

-- a number and the same with its sign inverted: as much above zero as below it
pub opposed : (s m : ℕ) → above s m + above (1 - s) m ≡ below s m + below (1 - s) m
opposed s m =
    ⊎_elim (λ e. omega (arith, unsigned s m e, negated (1 - s) m (omega arith))) (λ h. omega (arith, negated s m h, unsigned (1 - s) m (omega arith)))
    (eq-zero-or-pos s)

sign_most : (b : Bool) → cond b 1 0 ≤ 1
sign_most true = omega arith
sign_most false = omega arith

module _ (p n : ℕ) where
  pub signed_sign : (signed p n).sign ≤ 1
  unfolding signed
  signed_sign = sign_most (ltb p n)

  pub signed_most : (signed p n).magnitude ≤ p + n
  unfolding signed
  signed_most = omega arith

pub signed_level : (p n : ℕ) → p ≡ n → (signed p n).magnitude ≡ 0
unfolding signed
signed_level p n e = omega arith

-- the sum of two signed numbers is no larger than their magnitudes together
pub sum_most : (s a t b : ℕ) → (signed (above s a + above t b) (below s a + below t b)).magnitude ≤ a + b
sum_most s a t b = omega (arith, signed_most (above s a + above t b) (below s a + below t b), parts_whole s a, parts_whole t b)
