-- What is asked, each answer, and what is left behind (document 02, Job 13).
use Rattle.std.specs.Prelude.{Result, Ok, Err, ℕ, ◌*◌, ◌≡◌, List}
use Rattle.hexfloat.specs.Answer.{Answer, gives, stops}
use Rattle.protection.specs.Form.{ProtectList}
use Rattle.machine.specs.Decide.{pointer_of}
use Rattle.machine.specs.Machine.{Machine}
use Rattle.machine.specs.Run.{entry_of}
use Rattle.machine.specs.Stops.{number_of}
use Rattle.conditions.specs.Theorems.{KeptBelow}
use Rattle.stretch.specs.declared.answer.Refusal.{Refusal}
use Rattle.stretch.specs.declared.answer.Stretch as code
use Rattle.stretch.specs.Jump.{HasJump}
use Rattle.stretch.specs.Stretch.{Stretch, SixToEleven, Shortest}
use Rattle.stretch.specs.Trial.{trial_from}

-- what the code's answer says
abbrev pub stretch_of : ℕ → ℕ → ℕ → Stretch
stretch_of first last stop = record { first = first; last = last; stop = stop }

abbrev pub refusal_number : Refusal → ℕ
refusal_number (Refusal.Stopped k) = number_of k
refusal_number Refusal.Unsuited = 21

abbrev pub says_found : Result code.Stretch Refusal → Answer Stretch
says_found (Ok s) = gives (stretch_of s.first s.last (number_of s.stop))
says_found (Err r) = stops (refusal_number r)

-- each answer, and when it is given: the first of checks 20, 1, 2 and 3 that does not pass; 21 for a jump in the deck, or a run that ends by anything but 6
-- to 11; the shortest stretch
pub data Answers (d : List ℕ) (p : ProtectList) (k : ℕ) (x : Machine) : Answer Stretch → Type 0 where
  refused : (entry_of d p k x ≡ 0 → ⊥) → Answers d p k x (stops (entry_of d p k x))
  jump : entry_of d p k x ≡ 0 → HasJump d → Answers d p k x (stops 21)
  other_end : entry_of d p k x ≡ 0 → (SixToEleven (trial_from d p k x (pointer_of k x.state)).stop → ⊥) → Answers d p k x (stops 21)
  found : {s : Stretch} → entry_of d p k x ≡ 0 → (HasJump d → ⊥) → Shortest d p k x s → Answers d p k x (gives s)

-- y is what stands after trials from x that were taken back: state, used count and memory are as they were. Journal words from four times the used count
-- on are free, and as many as before.
pub record TakenBack (x y : Machine) : Type 0 where
  pub state : y.state ≡ x.state
  pub memory : y.memory ≡ x.memory
  pub journal : KeptBelow (x.state.used * 4) x.journal y.journal

-- the whole promise: where one of checks 20, 1, 2 and 3 refuses, no word at all is written
pub record Asked (d : List ℕ) (p : ProtectList) (k : ℕ) (x y : Machine) (a : Answer Stretch) : Type 0 where
  pub answers : Answers d p k x a
  pub left : TakenBack x y
  pub untouched : (entry_of d p k x ≡ 0 → ⊥) → y ≡ x
