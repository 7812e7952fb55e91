-- A test that is computed at every number below a bound, and what it says of each number.
use Prim.Native.Nat.{ℕ, zero, suc, ◌<◌}
use mathlib.Core.Path.{◌≡◌, refl}
use mathlib.Core.Bool.{Bool, true, false, ◌&&◌}
use native.Mathlib.Omega.{arith}
use lib.Dec.{eqb}
use borrow.Author.Tests.{eqb-true, eqb-false}
use Rattle.hexfloat.proofs.Answers.{both}

unfoldable pub all_below : (ℕ → Bool) → ℕ → Bool
all_below f zero = true
all_below f (suc n) = f n && all_below f n

last_or_before : (f : ℕ → Bool) (n k : ℕ) (b : Bool) → eqb k n ≡ b → f n ≡ true → (k < n → f k ≡ true) → k < suc n → f k ≡ true
last_or_before f n k true e last before l = rw (eqb-true k n e) last
last_or_before f n k false e last before l = before (let ne = eqb-false k n e in omega arith)

pub passes : (f : ℕ → Bool) (n k : ℕ) → all_below f n ≡ true → k < n → f k ≡ true
unfolding all_below
passes f zero k t l = absurd (omega arith)
passes f (suc n) k t l =
    let a = both (f n) (all_below f n) t in
    last_or_before f n k (eqb k n) refl a.0 (passes f n k a.1) l
