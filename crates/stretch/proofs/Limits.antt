-- Runs with two limits: one that stops within the smaller is the same with the larger, and one that does not takes at least as many steps.
use Prim.Native.Nat.{ℕ, zero, suc, ◌≤◌}
use mathlib.Core.Path.{◌≡◌, refl, ap}
use mathlib.Core.List.{List}
use native.Mathlib.Omega.{arith}
use borrow.Author.Tests.{eq-eqb}
use Rattle.hexfloat.specs.Answer.{Answer, gives, stops}
use Rattle.protection.specs.Form.{ProtectList}
use Rattle.machine.specs.declared.verdict.Effect.{Effect}
use Rattle.machine.specs.Machine.{Machine, committed}
use Rattle.machine.specs.Run.{repeated, steps_of, entry_of, ran}
use Rattle.machine.specs.Step.{Outcome, counted, onward, verdict_of}
use Rattle.conditions.proofs.Leaves.{stop_number}

module _ (d : List ℕ) (p : ProtectList) (k : ℕ) where
  steps-same : (n m : ℕ) → n ≤ m → (x : Machine) → ((steps_of d p k n x).stop ≡ 0 → ⊥) → steps_of d p k m x ≡ steps_of d p k n x
  unfolding repeated
  steps-same zero m h x z = absurd (z refl)
  steps-same (suc n) zero h x z = absurd (omega arith)
  steps-same (suc n) (suc m) h x z = cases (verdict_of d p k x) (steps-same n m (omega arith)) z
    where
      after : ℕ → Answer Effect → Outcome Machine
      after i v = onward v x (λ e. committed k e x) (steps_of d p k i)

      cases :
          (v : Answer Effect) → ((y : Machine) → ((steps_of d p k n y).stop ≡ 0 → ⊥) → steps_of d p k m y ≡ steps_of d p k n y) →
          ((after n v).stop ≡ 0 → ⊥) → after m v ≡ after n v
      cases (stops i) rest z = refl
      cases (gives e) rest z = ap (λ (r : Outcome Machine). counted r) (rest (committed k e x) z)

  steps_more : (n m : ℕ) → n ≤ m → (x : Machine) → (steps_of d p k n x).stop ≡ 0 → n ≤ (steps_of d p k m x).taken
  unfolding repeated
  steps_more zero m h x z = omega arith
  steps_more (suc n) zero h x z = absurd (omega arith)
  steps_more (suc n) (suc m) h x z = cases (verdict_of d p k x) refl (steps_more n m (omega arith)) z
    where
      after : ℕ → Answer Effect → Outcome Machine
      after i v = onward v x (λ e. committed k e x) (steps_of d p k i)

      cases :
          (v : Answer Effect) → verdict_of d p k x ≡ v → ((y : Machine) → (steps_of d p k n y).stop ≡ 0 → n ≤ (steps_of d p k m y).taken) →
          (after n v).stop ≡ 0 → suc n ≤ (after m v).taken
      cases (stops i) t rest z = absurd (stop_number d p k x i t z)
      cases (gives e) t rest z = omega (arith, rest (committed k e x) z)

  -- where checks 20 and 1 to 3 pass, a run is its steps
  pub run_steps : (x : Machine) → entry_of d p k x ≡ 0 → (limit : ℕ) → ran d p k limit x ≡ steps_of d p k limit x
  unfolding ran
  run_steps x h limit = rw (eq-eqb (entry_of d p k x) 0 h)

  module _ (n m : ℕ) (less : n ≤ m) (x : Machine) (entered : entry_of d p k x ≡ 0) where
    pub run_same : ((ran d p k n x).stop ≡ 0 → ⊥) → ran d p k m x ≡ ran d p k n x
    run_same z = rw (run_steps x entered n, run_steps x entered m) (steps-same n m less x (rw (run_steps x entered n) at z))

    pub run_more : (ran d p k n x).stop ≡ 0 → n ≤ (ran d p k m x).taken
    run_more z = rw (run_steps x entered m) (steps_more n m less x (rw (run_steps x entered n) at z))
