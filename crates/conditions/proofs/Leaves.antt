-- Condition 1 for the machine: a call that is refused leaves state, memory and journal as they were; a run keeps exactly the steps that it reports.
use Prim.Native.Nat.{ℕ, zero, suc, ◌+◌, ◌≤◌}
use mathlib.Core.Path.{◌≡◌, refl, sym, ap, subst, ◌∙◌}
use mathlib.Core.List.{List, ◌∷◌}
use mathlib.Core.Bool.{Bool, true, false, cond}
use lib.Dec.{eqb}
use lib.ListN.{length, replicate}
use native.Mathlib.Omega.{arith}
use borrow.Author.Tests.{eqb-false}
use Rattle.hexfloat.specs.Answer.{Answer, gives, stops}
use Rattle.protection.specs.Form.{ProtectList}
use Rattle.machine.specs.declared.verdict.Effect.{Effect}
use Rattle.machine.specs.Back.{returning, last_seat, backed_by, backed}
use Rattle.machine.specs.Machine.{Machine, committed}
use Rattle.machine.specs.Run.{repeated, entry_of, ran}
use Rattle.machine.specs.Step.{Outcome, outcome, counted, onward, verdict_of, stepped}
use Rattle.hexfloat.proofs.Answers.{StopsBy}
use Rattle.machine.proofs.Refusals.{decided_by}
use Rattle.machine.proofs.Runs.{entry_stops}
use Rattle.conditions.specs.Trail.{step, called, Reply, reply_of, standing, replies}
use Rattle.conditions.specs.Theorems.{times, answer, KeepsSteps, LeavesAll}

step_cases :
    (k : ℕ) (a : Answer Effect) (x : Machine) → ((onward a x (λ e. committed k e x) (λ y. outcome y 0 0)).stop ≡ 0 → ⊥) →
    (onward a x (λ e. committed k e x) (λ y. outcome y 0 0)).after ≡ x
step_cases k (stops n) x h = refl
step_cases k (gives e) x h = absurd (h refl)

-- a step that is stopped leaves all
step_leaves : (d : List ℕ) (p : ProtectList) (k : ℕ) (x : Machine) → ((stepped d p k x).stop ≡ 0 → ⊥) → (stepped d p k x).after ≡ x
unfolding stepped
step_leaves d p k x h = step_cases k (verdict_of d p k x) x h

back_cases : (a : Answer Effect) (k : ℕ) (x : Machine) → ((backed_by a k x).stop ≡ 0 → ⊥) → (backed_by a k x).after ≡ x
back_cases (stops n) k x h = refl
back_cases (gives e) k x h = absurd (h refl)

-- a back step that is refused leaves all
back_leaves : (p : ProtectList) (x : Machine) → ((backed p x).stop ≡ 0 → ⊥) → (backed p x).after ≡ x
unfolding backed
back_leaves p x h = back_cases (returning p x.state (length x.memory) x.journal) (last_seat x.state x.journal) x h

-- a run keeps exactly the steps that it reports
module _ (d : List ℕ) (p : ProtectList) (k : ℕ) where
  abbrev steps : ℕ → Machine → Outcome Machine
  steps n x = repeated (verdict_of d p k) (λ y e. committed k e y) n x

  stopped_step : (x : Machine) (n : ℕ) → verdict_of d p k x ≡ stops n → stepped d p k x ≡ outcome x 0 n
  unfolding stepped
  stopped_step x n t = rw t

  taken_step : (x : Machine) (e : Effect) → verdict_of d p k x ≡ gives e → called d p (step k) x ≡ outcome (committed k e x) 1 0
  unfolding called stepped
  taken_step x e t = rw t

  -- no stop has the number 0
  pub stop_number : (x : Machine) (n : ℕ) → verdict_of d p k x ≡ stops n → n ≡ 0 → ⊥
  stop_number x n t z =
      let s : 1 ≤ n = subst (StopsBy (λ m. 1 ≤ m)) t (decided_by (λ m. 1 ≤ m) (λ m l u. l) d p k x.state x.memory (length x.journal) (λ h. omega arith)) in
      omega arith

  stopped_keeps : (x : Machine) (n stop : ℕ) → verdict_of d p k x ≡ stops stop → (stop ≡ 0 → ⊥) → KeepsSteps d p k x n (outcome x 0 stop)
  unfolding standing replies
  stopped_keeps x n stop t some = record { kept = refl; taken = refl; within = omega arith; whole = λ z. absurd (some z); stopped = λ z. stopped_step x stop t }

  -- one step more at the front
  more_keeps : (x : Machine) (e : Effect) (n : ℕ) (r : Outcome Machine) → verdict_of d p k x ≡ gives e → KeepsSteps d p k (committed k e x) n r → KeepsSteps d p k x (suc n) (counted r)
  unfolding standing replies
  more_keeps x e n r t h =
      let more : r.taken + 1 ≡ suc r.taken = omega arith in
      let first = taken_step x e t in
      let kept : r.after ≡ times d p (suc r.taken) (step k) x = h.kept ∙ ap (λ (o : Outcome Machine). times d p r.taken (step k) o.after) (sym first) in
      let taken : replies (called d p) (replicate (suc r.taken) (step k)) x ≡ replicate (suc r.taken) (answer 1 0) =
      ap (λ (o : Outcome Machine). reply_of o ∷ replies (called d p) (replicate r.taken (step k)) o.after) first
      ∙ ap (λ (l : List Reply). answer 1 0 ∷ l) h.taken in
      record {
        kept = kept ∙ ap (λ (m : ℕ). times d p m (step k) x) (sym more);
        taken = subst (λ (m : ℕ). replies (called d p) (replicate m (step k)) x ≡ replicate m (answer 1 0)) (sym more) taken;
        within = omega (arith, h.within);
        whole = λ z. omega (arith, h.whole z);
        stopped = h.stopped;
      }

  steps_keep : (n : ℕ) (x : Machine) → KeepsSteps d p k x n (steps n x)
  unfolding repeated standing replies
  steps_keep zero x = record { kept = refl; taken = refl; within = omega arith; whole = λ z. refl; stopped = λ z. absurd (z refl) }
  steps_keep (suc n) x = cases (steps_keep n) (verdict_of d p k x) refl
    where
      cases :
          ((y : Machine) → KeepsSteps d p k y n (steps n y)) → (a : Answer Effect) → verdict_of d p k x ≡ a →
          KeepsSteps d p k x (suc n) (onward a x (λ e. committed k e x) (steps n))
      cases rest (stops stop) t = stopped_keeps x (suc n) stop t (stop_number x stop t)
      cases rest (gives e) t = more_keeps x e n (steps n (committed k e x)) t (rest (committed k e x))

  run_keeps : (limit : ℕ) (x : Machine) → KeepsSteps d p k x limit (ran d p k limit x)
  unfolding ran
  run_keeps limit x = cases (eqb (entry_of d p k x) 0) refl
    where
      cases : (b : Bool) → eqb (entry_of d p k x) 0 ≡ b → KeepsSteps d p k x limit (cond b (steps limit x) (outcome x 0 (entry_of d p k x)))
      cases true e = steps_keep limit x
      cases false e = stopped_keeps x limit (entry_of d p k x) (entry_stops d p k x (eqb-false (entry_of d p k x) 0 e)) (eqb-false (entry_of d p k x) 0 e)

pub leaves_all : (d : List ℕ) (p : ProtectList) (x : Machine) → LeavesAll d p x
leaves_all d p x = record { step = λ k. step_leaves d p k x; back = back_leaves p x; run = λ k limit. run_keeps d p k limit x }
