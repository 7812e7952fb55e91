-- Over a deck in which no order names an index every call is as it was before storage orders were indexed.
use Prim.Native.Nat.{ℕ}
use mathlib.Core.Path.{◌≡◌, refl}
use mathlib.Core.List.{List}
use lib.ListN.{length}
use Rattle.protection.specs.Form.{ProtectList}
use Rattle.machine.specs.Decide.{pointer_of}
use Rattle.machine.specs.Machine.{Machine}
use Rattle.machine.specs.Run.{ran}
use Rattle.machine.specs.Step.{outcome, verdict_of, stepped}
use Rattle.machine.specs.Unindexed.{unindexed_verdict, NoIndexIn}
use Rattle.machine.proofs.Unindexed.{decided_unindexed}
use Rattle.conditions.specs.Trail.{Call, step, run, back, called}
use Rattle.conditions.specs.Theorems.{SameCalls}
use Rattle.conditions.specs.Unindexed.{unindexed_called}
use Rattle.conditions.proofs.Same.{onward-same, repeated_same, same_calls}

module _ (d : List ℕ) (p : ProtectList) (none : NoIndexIn d) where
  -- of every machine
  abbrev Any : Machine → Type 0
  Any x = Unit {0}

  verdict_unindexed : (k : ℕ) (x : Machine) → Any x → verdict_of d p k x ≡ unindexed_verdict d p k x
  verdict_unindexed k x h = decided_unindexed d p k x.state x.memory (length x.journal) (none (pointer_of k x.state))

  call_unindexed : (c : Call) (x : Machine) → Any x → called d p c x ≡ unindexed_called d p c x
  unfolding called unindexed_called stepped ran
  call_unindexed (step k) x h = onward-same k Any (verdict_of d p k) (unindexed_verdict d p k) (verdict_unindexed k) (λ e y i. i) x h (λ y. outcome y 0 0) (λ y. outcome y 0 0) (λ y i. refl)
  call_unindexed (run k n) x h = rw (repeated_same k Any (verdict_of d p k) (unindexed_verdict d p k) (verdict_unindexed k) (λ e y i. i) n x h)
  call_unindexed back x h = refl

  pub unindexed : (x : Machine) → SameCalls (called d p) (unindexed_called d p) x
  unindexed x = same_calls Any (called d p) (unindexed_called d p) call_unindexed (λ c y k. k) x tt
