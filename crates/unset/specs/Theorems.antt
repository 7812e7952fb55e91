-- What is proved of the question, in the words of document 02, Job 11. The proofs are in proofs/Theorems.antt.
use Rattle.std.specs.Prelude.{ℕ, ◌≡◌, List, ◌⊎◌, length}
use Rattle.hexfloat.specs.Answer.{Answer, gives}
use Rattle.protection.specs.Form.{ProtectList}
use Rattle.machine.specs.Decide.{pointer_of}
use Rattle.machine.specs.Machine.{Machine}
use Rattle.machine.specs.Run.{ran}
use Rattle.machine.specs.Seats.{registers_of, other_of}
use Rattle.machine.specs.Step.{Outcome, stepped}
use Rattle.machine.specs.Uses.{Register, contents}
use Rattle.conditions.specs.Theorems.{TypedRegisters}
use Rattle.unset.specs.declared.path.Point.{Point}
use Rattle.unset.specs.Answer.{Finding, nothing, Answers}
use Rattle.unset.specs.Path.{point, start, Leads}

-- where a seat stands: at the order of its pointer, with its selector
abbrev pub point_of : ℕ → Machine → Point
point_of seat x = point (pointer_of seat x.state) (registers_of seat x.state).status.selector

-- Two machines with a seat at the start of a path that differ in nothing but what their registers hold, the other seat's among them, and the words of the
-- journal.
pub record AlikeAtStart (seat : ℕ) (x y : Machine) : Type 0 where
  pub at_start : point_of seat x ≡ start
  pub typed : TypedRegisters (registers_of seat x.state)
  pub typed_too : TypedRegisters (registers_of seat y.state)
  pub status : (registers_of seat x.state).status ≡ (registers_of seat y.state).status
  pub beside : (other_of seat x.state).status ≡ (other_of seat y.state).status
  pub used : x.state.used ≡ y.state.used
  pub memory : x.memory ≡ y.memory
  pub room : length x.journal ≡ length y.journal

-- What they come to, a and b, is alike: the same steps and stop, the same status, used count and memory, and each register holds the same in both or in
-- each what it held at the start.
pub record AlikeRuns (seat : ℕ) (x y : Machine) (a b : Outcome Machine) : Type 0 where
  pub taken : a.taken ≡ b.taken
  pub stop : a.stop ≡ b.stop
  pub status : (registers_of seat a.after.state).status ≡ (registers_of seat b.after.state).status
  pub used : a.after.state.used ≡ b.after.state.used
  pub memory : a.after.memory ≡ b.after.memory
  pub registers :
      (r : Register) →
      (contents (registers_of seat a.after.state) r ≡ contents (registers_of seat b.after.state) r)
      ⊎ ((contents (registers_of seat a.after.state) r ≡ contents (registers_of seat x.state) r) × (contents (registers_of seat b.after.state) r ≡ contents (registers_of seat y.state) r))

pub record Theorems : Type 0 where
  -- a deck has one answer
  pub one_answer : (d : List ℕ) (a b : Answer Finding) → Answers d a → Answers d b → a ≡ b
  -- a step that a seat takes is a step of a path
  pub along : (d : List ℕ) (p : ProtectList) (seat : ℕ) (x : Machine) → (stepped d p seat x).stop ≡ 0 → Leads d (point_of seat x) (point_of seat (stepped d p seat x).after)
  -- Where nothing is found, no run of a seat from order 0 depends on what its registers held at the start
  pub nothing_unset :
      (d : List ℕ) (p : ProtectList) (seat : ℕ) (x y : Machine) (limit : ℕ) → Answers d (gives nothing) → AlikeAtStart seat x y →
      AlikeRuns seat x y (ran d p seat limit x) (ran d p seat limit y)
