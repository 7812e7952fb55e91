-- A back step as C sees it: a number and a value (document 02, Job 12).
use Rattle.std.specs.Prelude.{Option, Some, None, ℕ, ◌≡◌}
use Rattle.machine.specs.Machine.{Machine}
use Rattle.machine.specs.Step.{Outcome}
use Rattle.panel.specs.declared.value.Answer.{Answer}

-- the seat whose step was taken back, 0 where none was
abbrev pub seat_said : Option ℕ → ℕ
seat_said None = 0
seat_said (Some k) = k

-- x stands after the back step o; the number is 0 or its refusal's, the value that seat
pub record TakenBack (x : Machine) (r : Answer) (o : Outcome Machine) : Type 0 where
  pub after : x ≡ o.after
  pub number : r.number ≡ o.stop
  pub value : r.value ≡ seat_said o.whose
