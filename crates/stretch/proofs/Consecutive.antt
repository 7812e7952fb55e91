-- Without jumps the orders that a run takes are consecutive, so that it ends by a stop.
use Prim.Native.Nat.{ℕ, zero, suc, ◌+◌, ◌/◌, ◌<◌, ◌≤◌}
use mathlib.Core.Path.{◌≡◌, refl}
use mathlib.Core.List.{List}
use mathlib.Core.Logic.{inl, inr}
use mathlib.Core.Bool.{Bool, true, false, cond}
use lib.Dec.{eqb}
use lib.ListN.{length}
use native.Mathlib.Omega.{arith}
use borrow.Author.Tests.{eqb-true}
use Rattle.hexfloat.specs.Answer.{Answer, gives, stops}
use Rattle.protection.specs.Form.{ProtectList}
use Rattle.machine.specs.declared.verdict.Effect.{Effect}
use Rattle.machine.specs.Decide.{pointer_of}
use Rattle.machine.specs.Machine.{Machine, committed}
use Rattle.machine.specs.Run.{repeated, steps_of, entry_of, ran}
use Rattle.machine.specs.Step.{Outcome, outcome, onward, verdict_of}
use Rattle.machine.proofs.Checks.{entered}
use Rattle.conditions.proofs.Journals.{run_either}
use Rattle.conditions.proofs.Onward.{taken_on, decided_inside}
use Rattle.conditions.proofs.Theorems.{theorems}
use Rattle.stretch.specs.Jump.{HasJump}
use Rattle.stretch.specs.Trial.{start_at, trial_from}

module _ (d : List ℕ) (p : ProtectList) (k : ℕ) (none : HasJump d → ⊥) where
  -- the pointer is as far on as steps were taken, and each of them was taken at an order of the deck
  pub record Onward (x : Machine) (r : Outcome Machine) : Type 0 where
    pub pointer : pointer_of k r.after.state ≡ pointer_of k x.state + r.taken
    pub inside : 0 < r.taken → pointer_of k x.state + r.taken ≤ length d / 4

  still : (x : Machine) (stop : ℕ) → Onward x (outcome x 0 stop)
  still x stop = record { pointer = omega arith; inside = λ h. absurd (omega arith) }

  steps-onward : (n : ℕ) (x : Machine) → Onward x (steps_of d p k n x)
  unfolding repeated
  steps-onward zero x = still x 0
  steps-onward (suc n) x = cases (verdict_of d p k x) refl (steps-onward n)
    where
      cases :
          (v : Answer Effect) → verdict_of d p k x ≡ v → ((y : Machine) → Onward y (steps_of d p k n y)) →
          Onward x (onward v x (λ e. committed k e x) (steps_of d p k n))
      cases (stops i) t rest = still x i
      cases (gives e) t rest =
          let here : pointer_of k x.state < length d / 4 = decided_inside d p k x.state x.memory (length x.journal) e t in
          let next : pointer_of k (committed k e x).state ≡ pointer_of k x.state + 1 =
          taken_on d p k x
          (λ h. none (record { order = pointer_of k x.state; inside = here; jump = inl h }))
          (λ h. none (record { order = pointer_of k x.state; inside = here; jump = inr h }))
          e t in
          let r = rest (committed k e x) in
          let some : 0 < (steps_of d p k n (committed k e x)).taken → pointer_of k x.state + ((steps_of d p k n (committed k e x)).taken + 1) ≤ length d / 4 =
          λ h. omega (arith, r.inside h) in
          record {
            pointer = omega (arith, r.pointer);
            inside = λ h. first (steps_of d p k n (committed k e x)).taken here some;
          }
        where
          first : (i : ℕ) → pointer_of k x.state < length d / 4 → (0 < i → pointer_of k x.state + (i + 1) ≤ length d / 4) → pointer_of k x.state + (i + 1) ≤ length d / 4
          first zero h rest = omega arith
          first (suc i) h rest = rest (omega arith)

  pub run_onward : (limit : ℕ) (x : Machine) → Onward x (ran d p k limit x)
  run_onward limit x = run_either d p k (Onward x) limit x (steps-onward limit x) (still x (entry_of d p k x))

-- a run that no check refuses
pub run_entered : (d : List ℕ) (p : ProtectList) (k limit : ℕ) (x : Machine) → (ran d p k limit x).stop ≡ 0 → entry_of d p k x ≡ 0
unfolding ran
run_entered d p k limit x z = cases (eqb (entry_of d p k x) 0) refl z
  where
    cases : (b : Bool) → eqb (entry_of d p k x) 0 ≡ b → (cond b (steps_of d p k limit x) (outcome x 0 (entry_of d p k x))).stop ≡ 0 → entry_of d p k x ≡ 0
    cases true e z = eqb-true (entry_of d p k x) 0 e
    cases false e z = z

module _ (d : List ℕ) (p : ProtectList) (k : ℕ) (none : HasJump d → ⊥) where
  -- it takes at most as many steps as the largest deck has orders
  pub run_few : (limit : ℕ) (x : Machine) → entry_of d p k x ≡ 0 → (ran d p k limit x).taken ≤ 4096
  run_few limit x enters =
      let q = entered p x.state.seat0.status x.state.seat1.status x.state.used (length x.memory) (length x.journal) k (length d) enters in
      cases (ran d p k limit x).taken q.sized.size (run_onward d p k none limit x).inside
    where
      cases : (i : ℕ) → length d ≤ 16384 → (0 < i → pointer_of k x.state + i ≤ length d / 4) → i ≤ 4096
      cases zero few inside = omega arith
      cases (suc i) few inside = omega (arith, inside (omega arith))

  -- so with a larger limit it stops
  pub run_ends : (limit : ℕ) (x : Machine) → 4096 < limit → (ran d p k limit x).stop ≡ 0 → ⊥
  run_ends limit x large z =
      omega (arith, run_few limit x (run_entered d p k limit x z), ((theorems.leaves_all d p x).run k limit).whole z)

pub trial_ends : (d : List ℕ) (p : ProtectList) (k f : ℕ) (x : Machine) → (HasJump d → ⊥) → (trial_from d p k x f).stop ≡ 0 → ⊥
trial_ends d p k f x none = run_ends d p k none 4294967295 (start_at k f x) (omega arith)
