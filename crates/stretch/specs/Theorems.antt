-- What is proved of the question, in the words of document 02, Job 13, for every deck d, protect list p in any form, seat k and machine x. The proofs are in
-- proofs/Theorems.antt.
use Rattle.std.specs.Prelude.{ℕ, ◌+◌, ◌≡◌, List}
use Rattle.hexfloat.specs.Answer.{Answer}
use Rattle.protection.specs.Form.{ProtectList}
use Rattle.machine.specs.Decide.{pointer_of}
use Rattle.machine.specs.Machine.{Machine}
use Rattle.machine.specs.Run.{ran}
use Rattle.stretch.specs.Answer.{Answers}
use Rattle.stretch.specs.Jump.{HasJump}
use Rattle.stretch.specs.Stretch.{Stretch}
use Rattle.stretch.specs.Trial.{trial_from}

pub record Theorems : Type 0 where
  -- there is one answer
  pub one_answer : (d : List ℕ) (p : ProtectList) (k : ℕ) (x : Machine) (a b : Answer Stretch) → Answers d p k x a → Answers d p k x b → a ≡ b
  -- the trial from the pointer is the run from the given state
  pub whole_run : (d : List ℕ) (p : ProtectList) (k : ℕ) (x : Machine) → trial_from d p k x (pointer_of k x.state) ≡ ran d p k 4294967295 x
  -- without jumps the orders that a run takes are consecutive: at every limit the pointer is as far on as steps were taken
  pub consecutive :
      (d : List ℕ) (p : ProtectList) (k limit : ℕ) (x : Machine) → (HasJump d → ⊥) →
      pointer_of k (ran d p k limit x).after.state ≡ pointer_of k x.state + (ran d p k limit x).taken
  -- and every trial ends by a stop
  pub ends : (d : List ℕ) (p : ProtectList) (k f : ℕ) (x : Machine) → (HasJump d → ⊥) → (trial_from d p k x f).stop ≡ 0 → ⊥
