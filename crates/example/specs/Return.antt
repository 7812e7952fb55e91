-- A step and the back step after it.
use Rattle.std.specs.Prelude.{Option, Some, None, ℕ, ◌≡◌, cond, List, eqb}
use Rattle.protection.specs.Form.{ProtectList}
use Rattle.machine.specs.Machine.{Machine}
use Rattle.machine.specs.Step.{stepped}

-- From x to y by a step of seat k, which answers `step`, and, if it is taken, a back step, which answers `back`, is taken too and says that the step was
-- seat k's: state and memory are as they were. The journal is as the step left it; a back step that was not made answers 0 and names nobody.
pub record Returned (d : List ℕ) (p : ProtectList) (k : ℕ) (x y : Machine) (step back : ℕ) (whose : Option ℕ) : Type 0 where
  pub answered : step ≡ (stepped d p k x).stop
  pub taken : back ≡ 0
  pub named : whose ≡ cond (eqb step 0) (Some k) None
  pub state : y.state ≡ x.state
  pub memory : y.memory ≡ x.memory
  pub journal : y.journal ≡ (stepped d p k x).after.journal
