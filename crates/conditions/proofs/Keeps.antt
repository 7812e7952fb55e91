-- What of memory every change keeps that stores to no protected halfword, every list of calls keeps.
use Prim.Native.Nat.{ℕ, zero, suc}
use mathlib.Core.Path.{◌≡◌, refl, ◌∙◌}
use mathlib.Core.List.{List, [], ◌∷◌}
use mathlib.Core.Bool.{Bool, true, false, cond}
use lib.Dec.{eqb}
use lib.ListN.{length}
use Rattle.hexfloat.specs.Answer.{Answer, gives, stops}
use Rattle.protection.specs.Form.{ProtectList}
use Rattle.machine.specs.declared.change.Change.{Change}
use Rattle.machine.specs.declared.verdict.Effect.{Effect}
use Rattle.machine.specs.Back.{returning, last_seat, backed_by, backed}
use Rattle.machine.specs.Change.{guarded, memory_after}
use Rattle.machine.specs.Machine.{Machine, committed}
use Rattle.machine.specs.Run.{repeated, entry_of, ran}
use Rattle.machine.specs.Step.{Outcome, outcome, onward, verdict_of, stepped}
use Rattle.conditions.specs.Trail.{Call, step, run, back, called, standing}
use Rattle.conditions.specs.Theorems.{machine_after}
use Rattle.machine.proofs.Decided.{decided_taken}
use Rattle.machine.proofs.Returning.{returning_gives}

module _ (p : ProtectList) {A : Type 0} (part : List ℕ → A) (change_keeps : (ch : Change) (m : List ℕ) → guarded p ch ≡ false → part (memory_after ch m) ≡ part m) (d : List ℕ) where
  -- as it is in x
  abbrev Keeps : Machine → Outcome Machine → Type 0
  Keeps x r = part r.after.memory ≡ part x.memory

  onward_keeps : (k : ℕ) (x : Machine) (f : Machine → Outcome Machine) → ((y : Machine) → Keeps y (f y)) → Keeps x (onward (verdict_of d p k x) x (λ e. committed k e x) f)
  onward_keeps k x f rest = cases (verdict_of d p k x) refl
    where
      cases : (v : Answer Effect) → verdict_of d p k x ≡ v → Keeps x (onward v x (λ e. committed k e x) f)
      cases (stops n) t = refl
      cases (gives e) t =
          rest (committed k e x) ∙ change_keeps e.change x.memory (decided_taken d p k x.state x.memory (length x.journal) e t).fine.free

  repeated_keeps : (k n : ℕ) (x : Machine) → Keeps x (repeated (verdict_of d p k) (λ y e. committed k e y) n x)
  unfolding repeated
  repeated_keeps k zero x = refl
  repeated_keeps k (suc n) x = onward_keeps k x (repeated (verdict_of d p k) (λ y e. committed k e y) n) (repeated_keeps k n)

  run_keeps : (stop k n : ℕ) (x : Machine) → Keeps x (cond (eqb stop 0) (repeated (verdict_of d p k) (λ y e. committed k e y) n x) (outcome x 0 stop))
  run_keeps stop k n x = cases (eqb stop 0)
    where
      cases : (b : Bool) → Keeps x (cond b (repeated (verdict_of d p k) (λ y e. committed k e y) n x) (outcome x 0 stop))
      cases true = repeated_keeps k n x
      cases false = refl

  back_keeps : (x : Machine) (v : Answer Effect) → returning p x.state (length x.memory) x.journal ≡ v → Keeps x (backed_by v (last_seat x.state x.journal) x)
  back_keeps x (stops k) t = refl
  back_keeps x (gives e) t = change_keeps e.change x.memory (returning_gives p (length x.memory) x.state x.journal e t).free

  pub call_keeps : (c : Call) (x : Machine) → Keeps x (called d p c x)
  unfolding called stepped ran backed
  call_keeps (step k) x = onward_keeps k x (λ y. outcome y 0 0) (λ y. refl)
  call_keeps (run k n) x = run_keeps (entry_of d p k x) k n x
  call_keeps back x = back_keeps x (returning p x.state (length x.memory) x.journal) refl

  pub calls_keep : (cs : List Call) (x : Machine) → part (machine_after d p cs x).memory ≡ part x.memory
  unfolding standing
  calls_keep [] x = refl
  calls_keep (c ∷ cs) x = calls_keep cs (called d p c x).after ∙ call_keeps c x
