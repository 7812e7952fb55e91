-- Two machines whose steps are decided alike wherever something holds that every call keeps do the same.
use Prim.Native.Nat.{ℕ, zero, suc}
use mathlib.Core.Path.{◌≡◌, refl, ap, ◌∙◌}
use mathlib.Core.List.{List, [], ◌∷◌}
use Rattle.hexfloat.specs.Answer.{Answer, gives, stops}
use Rattle.machine.specs.declared.verdict.Effect.{Effect}
use Rattle.machine.specs.Machine.{Machine, committed}
use Rattle.machine.specs.Run.{repeated}
use Rattle.machine.specs.Step.{Outcome, counted, onward}
use Rattle.conditions.specs.Trail.{Call, Reply, reply_of, standing, replies}
use Rattle.conditions.specs.Theorems.{SameCalls}

-- steps of seat k
module _ (k : ℕ) (P : Machine → Type 0) (u v : Machine → Answer Effect) (same : (x : Machine) → P x → u x ≡ v x) (kept : (e : Effect) (x : Machine) → P x → P (committed k e x)) where
  -- a step, and whatever follows it
  pub onward-same :
      (x : Machine) → P x → (f g : Machine → Outcome Machine) → ((y : Machine) → P y → f y ≡ g y) →
      onward (u x) x (λ e. committed k e x) f ≡ onward (v x) x (λ e. committed k e x) g
  onward-same x h f g rest = rw (same x h) (cases (v x))
    where
      cases : (a : Answer Effect) → onward a x (λ e. committed k e x) f ≡ onward a x (λ e. committed k e x) g
      cases (stops n) = refl
      cases (gives e) = ap counted (rest (committed k e x) (kept e x h))

  pub repeated_same : (n : ℕ) (x : Machine) → P x → repeated u (λ y e. committed k e y) n x ≡ repeated v (λ y e. committed k e y) n x
  unfolding repeated
  repeated_same zero x h = refl
  repeated_same (suc n) x h = onward-same x h (repeated u (λ y e. committed k e y) n) (repeated v (λ y e. committed k e y) n) (repeated_same n)

-- lists of calls
module _ (P : Machine → Type 0) (f g : Call → Machine → Outcome Machine) (same : (c : Call) (x : Machine) → P x → f c x ≡ g c x) (kept : (c : Call) (x : Machine) → P x → P (f c x).after) where
  answers_same : (cs : List Call) (x : Machine) → P x → replies f cs x ≡ replies g cs x
  unfolding replies
  answers_same [] x h = refl
  answers_same (c ∷ cs) x h =
      ap (λ (l : List Reply). reply_of (f c x) ∷ l) (answers_same cs (f c x).after (kept c x h))
      ∙ ap (λ (r : Outcome Machine). reply_of r ∷ replies g cs r.after) (same c x h)

  after_same : (cs : List Call) (x : Machine) → P x → standing f cs x ≡ standing g cs x
  unfolding standing
  after_same [] x h = refl
  after_same (c ∷ cs) x h = after_same cs (f c x).after (kept c x h) ∙ ap (λ (r : Outcome Machine). standing g cs r.after) (same c x h)

  pub same_calls : (x : Machine) → P x → SameCalls f g x
  same_calls x h = record { call = λ c. same c x h; answers = λ cs. answers_same cs x h; after = λ cs. after_same cs x h }
