-- The trail's run, made of its own single steps, is the recursion over verdicts that the machine's run has.
use Prim.Native.Nat.{ℕ, zero, suc, ◌+◌, ◌≤◌}
use mathlib.Core.Path.{◌≡◌, refl}
use mathlib.Core.List.{List}
use native.Mathlib.Omega.{arith}
use borrow.Author.Tests.{ne_eqb}
use Rattle.hexfloat.specs.Answer.{Answer, gives, stops}
use Rattle.protection.specs.Form.{ProtectList}
use Rattle.machine.specs.declared.verdict.Effect.{Effect}
use Rattle.machine.specs.Run.{repeated}
use Rattle.machine.specs.Step.{Outcome, outcome, onward}
use Rattle.hexfloat.proofs.Answers.{StopsBy}
use Rattle.machine.proofs.Refusals.{decided_by}
use Rattle.conditions.specs.Trail.{Trail, extended, judged_last, go_on, step_traced, run_traced}

module _ (d : List ℕ) (p : ProtectList) (journal k : ℕ) where
  -- no verdict on the trail stops by 0
  pub judged_by : (t : Trail) → StopsBy (λ n. 1 ≤ n) (judged_last d p journal k t)
  judged_by t = decided_by (λ n. 1 ≤ n) (λ n l u. l) d p k t.last.state t.last.memory journal (λ h. omega arith)

  abbrev pub repeated_last : ℕ → Trail → Outcome Trail
  repeated_last n t = repeated (judged_last d p journal k) (λ u e. extended k e u) n t

  pub run_repeats : (n : ℕ) (t : Trail) → run_traced d p journal k n t ≡ repeated_last n t
  unfolding run_traced repeated step_traced
  run_repeats zero t = refl
  run_repeats (suc n) t = cases (judged_last d p journal k t) (judged_by t) (run_repeats n)
    where
      cases :
          (a : Answer Effect) → StopsBy (λ n. 1 ≤ n) a → ((u : Trail) → run_traced d p journal k n u ≡ repeated_last n u) →
          go_on (onward a t (λ e. extended k e t) (λ u. outcome u 0 0)) (run_traced d p journal k n) ≡ onward a t (λ e. extended k e t) (repeated_last n)
      cases (stops n) s rest = rw (ne_eqb n 0 (λ z. omega (arith, s)))
      cases (gives e) s rest =
          let r = repeated_last n (extended k e t) in
          let sum : 0 + 1 + r.taken ≡ r.taken + 1 = omega arith in
          rw (rest (extended k e t), sum)
