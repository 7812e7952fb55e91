-- A taken step and the back step after it, from the theorems on the machine.
use Rattle.std.specs.Prelude.{Option, None}
use Prim.Native.Nat.{ℕ}
use native.Mathlib.Omega.{arith}
use mathlib.Core.Path.{◌≡◌, refl, sym, ap, ◌∙◌}
use mathlib.Core.List.{List}
use borrow.Author.Tests.{eq-eqb, ne_eqb}
use Rattle.std.specs.Prelude.{Option, None}
use Rattle.hexfloat.specs.Answer.{Answer, gives, stops}
use Rattle.protection.specs.Form.{ProtectList}
use Rattle.machine.specs.declared.verdict.Effect.{Effect}
use Rattle.machine.specs.Back.{back_outcome, undone, backed}
use Rattle.machine.specs.Machine.{Machine, machine, committed}
use Rattle.machine.specs.Step.{Outcome, outcome, single, verdict_of, stepped}
use Rattle.conditions.specs.Theorems.{Typed}
use Rattle.conditions.proofs.Theorems.{theorems}
use Rattle.example.specs.Return.{Returned}

module _ (d : List ℕ) (p : ProtectList) (k : ℕ) (x : Machine) where
  -- a step that is refused leaves all
  pub refused : {y : Machine} {n : ℕ} → (n ≡ 0 → ⊥) → single y n ≡ stepped d p k x → Returned d p k x y n 0 None
  refused {y} {n} nonzero e =
      let answered : n ≡ (stepped d p k x).stop = ap (λ (r : Outcome Machine). r.stop) e in
      let same : (stepped d p k x).after ≡ x = (theorems.leaves_all d p x).step k (λ h. nonzero (answered ∙ h)) in
      let left : y ≡ x = ap (λ (r : Outcome Machine). r.after) e ∙ same in
      record {
        answered = answered;
        taken = refl;
        named = rw (ne_eqb n 0 nonzero);
        state = ap (λ (z : Machine). z.state) left;
        memory = ap (λ (z : Machine). z.memory) left;
        journal = ap (λ (r : Outcome Machine). r.after.journal) e;
      }

  -- a step by its verdict
  stopped : (n : ℕ) → verdict_of d p k x ≡ stops n → stepped d p k x ≡ outcome x 0 n
  unfolding stepped
  stopped n h = rw h

  taken : (f : Effect) → verdict_of d p k x ≡ gives f → stepped d p k x ≡ outcome (committed k f x) 1 0
  unfolding stepped
  taken f h = rw h

  -- a step that is taken has an effect, whose record the back step reads
  pub returned :
      {y z : Machine} {j n : ℕ} {whose : Option ℕ} →
      Typed x.memory → j ≡ 0 → single y j ≡ stepped d p k x → back_outcome z n whose ≡ backed p y → Returned d p k x z j n whose
  returned {y} {z} {j} {n} {whose} typed none e b = cases (verdict_of d p k x) refl
    where
      answered : j ≡ (stepped d p k x).stop
      answered = ap (λ (r : Outcome Machine). r.stop) e

      by_effect :
          (journal : List ℕ) → back_outcome z n whose ≡ undone (machine x.state x.memory journal) k → journal ≡ y.journal →
          Returned d p k x z j n whose
      by_effect journal h same = record {
        answered = answered;
        taken = ap (λ (o : Outcome Machine). o.stop) h;
        named = rw (eq-eqb j 0 none) (ap (λ (o : Outcome Machine). o.whose) h);
        state = ap (λ (o : Outcome Machine). o.after.state) h;
        memory = ap (λ (o : Outcome Machine). o.after.memory) h;
        journal = ap (λ (o : Outcome Machine). o.after.journal) h ∙ same ∙ ap (λ (o : Outcome Machine). o.after.journal) e;
      }

      cases : (v : Answer Effect) → verdict_of d p k x ≡ v → Returned d p k x z j n whose
      cases (stops m) h =
          let one : (stepped d p k x).taken ≡ 1 = (theorems.zero_is_taken d p x).counts k (sym answered ∙ none) in
          let other : (stepped d p k x).taken ≡ 0 = ap (λ (o : Outcome Machine). o.taken) (stopped m h) in
          absurd (omega arith)
      cases (gives f) h =
          let at : y ≡ committed k f x = ap (λ (o : Outcome Machine). o.after) (e ∙ taken f h) in
          by_effect
          (committed k f x).journal
          (b ∙ ap (backed p) at ∙ (theorems.one_record d p k x f typed h).back)
          (ap (λ (z : Machine). z.journal) (sym at))
