-- Whether a register is among some registers is decided by comparing its numbers.
use Prim.Native.Nat.{ℕ}
use mathlib.Core.Path.{◌≡◌, refl, ap}
use mathlib.Core.List.Memᴰ
use mathlib.Core.List.{List, [], ◌∷◌, Memᴰ}
use mathlib.Core.Logic.{◌⊎◌, inl, inr, ⊎_elim}
use mathlib.Core.Bool.{Bool, true, false}
use lib.Dec.{eqb}
use native.Mathlib.Omega.{arith}
use borrow.Author.Tests.{eqb-true, eqb-false}
use Rattle.machine.specs.Uses.{Register, float, general}

-- it holds or it does not
abbrev pub Decision : Type 0 → Type 0
Decision P = P ⊎ (P → ⊥)

same_number : (a b : ℕ) → Decision (a ≡ b)
same_number a b = cases (eqb a b) refl
  where
    cases : (t : Bool) → eqb a b ≡ t → Decision (a ≡ b)
    cases true e = inl (eqb-true a b e)
    cases false e = inr (eqb-false a b e)

one_register : (r t : Register) → Decision (r ≡ t)
one_register (float a) (float b) = ⊎_elim (λ e. inl (ap float e)) (λ n. inr (λ e. n (cc))) (same_number a b)
one_register (float a) (general s b) = inr (λ e. let z : ◌≡◌ {A = ℕ} 0 1 = cc in omega arith)
one_register (general s a) (float b) = inr (λ e. let z : ◌≡◌ {A = ℕ} 0 1 = cc in omega arith)
one_register (general s a) (general t b) = cases (same_number s t) (same_number a b)
  where
    cases : Decision (s ≡ t) → Decision (a ≡ b) → Decision (general s a ≡ general t b)
    cases (inl e) (inl f) = inl (cc)
    cases (inl e) (inr n) = inr (λ f. n (cc))
    cases (inr n) f = inr (λ e. n (cc))

pub among : (r : Register) (rs : List Register) → Decision (Memᴰ r rs)
among r [] = inr Memᴰ.not-nil
among r (t ∷ rs) = cases (one_register r t) (among r rs)
  where
    cases : Decision (r ≡ t) → Decision (Memᴰ r rs) → Decision (Memᴰ r (t ∷ rs))
    cases (inl e) m = inl (Memᴰ.head e)
    cases (inr n) (inl m) = inl (Memᴰ.tail m)
    cases (inr n) (inr k) = inr (λ m. ⊎_elim n k (Memᴰ.cases_cons m))
