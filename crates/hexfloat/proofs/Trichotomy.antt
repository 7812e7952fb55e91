-- How two numbers stand to each other: below or not; below, equal or above.
use mathlib.Core.Path.{◌≡◌}
use mathlib.Core.Logic.{◌⊎◌, inl, inr, ⊎_elim}
use Prim.Native.Nat.{ℕ, ◌-◌, ◌≤◌, ◌<◌}
use native.Mathlib.Nat.{eq-zero-or-pos}
use native.Mathlib.Omega.{arith}

pub below_or_not : (a b : ℕ) → (a < b) ⊎ (b ≤ a)
below_or_not a b = ⊎_elim (λ e. inr (omega arith)) (λ p. inl (omega arith)) (eq-zero-or-pos (b - a))

pub data Trichotomy (a b : ℕ) : Type 0 where
  less : a < b → Trichotomy a b
  same : a ≡ b → Trichotomy a b
  more : b < a → Trichotomy a b

pub trichotomy : (a b : ℕ) → Trichotomy a b
trichotomy a b = ⊎_elim less (λ l. ⊎_elim more (λ m. same (omega arith)) (below_or_not b a)) (below_or_not a b)
