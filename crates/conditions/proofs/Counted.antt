-- n by the answers: what the calls of a trail say was taken, less what they say was taken back, is what its entries have grown by.
use Prim.Native.Nat.{ℕ, zero, suc, ◌+◌, ◌≤◌}
use mathlib.Core.Path.{◌≡◌, refl}
use mathlib.Core.List.{List, [], ◌∷◌}
use mathlib.Core.Bool.{Bool, true, false, cond}
use lib.Dec.{eqb}
use lib.ListN.{length}
use native.Mathlib.Omega.{arith}
use borrow.Author.Tests.{eqb-false, ne_eqb}
use Rattle.hexfloat.specs.Answer.{Answer, gives, stops}
use Rattle.protection.specs.Form.{ProtectList}
use Rattle.machine.specs.declared.verdict.Effect.{Effect}
use Rattle.machine.specs.Run.{repeated}
use Rattle.machine.specs.Step.{outcome, onward}
use Rattle.hexfloat.proofs.Answers.{StopsBy}
use Rattle.conditions.specs.Trail.{Call, step, run, back, Entry, Earlier, Trail, extended, judged_last, entered_last, held_at, dropped, step_traced, traced, standing, replies, steps_said, backs_said}
use Rattle.conditions.proofs.Repeats.{judged_by, repeated_last, run_repeats}

-- no check with the start alone answers 0
pub some_number : (k : ℕ) → cond (eqb k 0) 14 k ≡ 0 → ⊥
some_number k h = cases (eqb k 0) refl h
  where
    cases : (b : Bool) → eqb k 0 ≡ b → cond b 14 k ≡ 0 → ⊥
    cases true e z = omega arith
    cases false e z = eqb-false k 0 e z

module _ (d : List ℕ) (p : ProtectList) (journal : ℕ) where
  -- a step adds an entry exactly where its answer is 0
  step_adds :
      (k : ℕ) (t : Trail) → length (traced d p journal (step k) t).after.earlier ≡ cond (eqb (traced d p journal (step k) t).stop 0) 1 0 + length t.earlier
  unfolding traced step_traced
  step_adds k t = cases (judged_last d p journal k t) (judged_by d p journal k t)
    where
      cases :
          (a : Answer Effect) → StopsBy (λ n. 1 ≤ n) a →
          (let r = onward a t (λ e. extended k e t) (λ u. outcome u 0 0) in length r.after.earlier ≡ cond (eqb r.stop 0) 1 0 + length t.earlier)
      cases (stops n) s = rw (ne_eqb n 0 (λ z. omega (arith, s))) (omega arith)
      cases (gives e) s = omega arith

  -- a run adds the entries that it reports
  repeated_adds : (k n : ℕ) (t : Trail) → length (repeated_last d p journal k n t).after.earlier ≡ (repeated_last d p journal k n t).taken + length t.earlier
  unfolding repeated
  repeated_adds k zero t = omega arith
  repeated_adds k (suc n) t = cases (judged_last d p journal k t) (repeated_adds k n)
    where
      cases :
          (a : Answer Effect) →
          ((u : Trail) → length (repeated_last d p journal k n u).after.earlier ≡ (repeated_last d p journal k n u).taken + length u.earlier) →
          (let r = onward a t (λ e. extended k e t) (repeated_last d p journal k n) in length r.after.earlier ≡ r.taken + length t.earlier)
      cases (stops stop) rest = omega arith
      cases (gives e) rest = omega (arith, rest (extended k e t))

  run_adds : (k n : ℕ) (t : Trail) → length (traced d p journal (run k n) t).after.earlier ≡ (traced d p journal (run k n) t).taken + length t.earlier
  unfolding traced
  run_adds k n t = rw (run_repeats d p journal k n t) (cases (eqb (entered_last d p journal k t) 0))
    where
      cases :
          (b : Bool) →
          (let r = cond b (repeated_last d p journal k n t) (outcome t 0 (entered_last d p journal k t)) in length r.after.earlier ≡ r.taken + length t.earlier)
      cases true = repeated_adds k n t
      cases false = omega arith

  -- a back step drops an entry exactly where its answer is 0
  back_drops :
      (t : Trail) → cond (eqb (traced d p journal back t).stop 0) 1 0 + length (traced d p journal back t).after.earlier ≡ length t.earlier
  unfolding traced
  back_drops t = cases t.last t.earlier
    where
      cases : (x : Entry) (es : List Earlier) → cond (eqb (dropped p journal x es).stop 0) 1 0 + length (dropped p journal x es).after.earlier ≡ length es
      cases x [] = rw (ne_eqb _ 0 (some_number (held_at p journal x)))
      cases x (y ∷ ys) = omega arith

  -- one call more at the front
  pub counted_said :
      (cs : List Call) (t : Trail) →
      steps_said cs (replies (traced d p journal) cs t) + length t.earlier
      ≡ backs_said cs (replies (traced d p journal) cs t) + length (standing (traced d p journal) cs t).earlier
  unfolding standing replies steps_said backs_said
  counted_said [] t = refl
  counted_said (step k ∷ cs) t = omega (arith, counted_said cs (traced d p journal (step k) t).after, step_adds k t)
  counted_said (run k n ∷ cs) t = omega (arith, counted_said cs (traced d p journal (run k n) t).after, run_adds k n t)
  counted_said (back ∷ cs) t = omega (arith, counted_said cs (traced d p journal back t).after, back_drops t)
