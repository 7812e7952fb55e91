-- The shortest stretch that still stops (document 02, Job 13).
use Rattle.std.specs.Prelude.{ℕ, ◌<◌, ◌≤◌, List}
use Rattle.protection.specs.Form.{ProtectList}
use Rattle.machine.specs.Decide.{pointer_of}
use Rattle.machine.specs.Machine.{Machine}
use Rattle.stretch.specs.Trial.{StopsFrom}

-- orders `first` to `last`, and the number by which the last of them stops
pub record Stretch : Type 0 where
  pub first : ℕ
  pub last : ℕ
  pub stop : ℕ

-- one of 6 to 11
pub record SixToEleven (n : ℕ) : Type 0 where
  pub least : 6 ≤ n
  pub most : n ≤ 11

-- the whole run, from the pointer on, stops at `last` by `stop`, one of 6 to 11; so does the run from `first`, and none from a later order does
pub record Shortest (d : List ℕ) (p : ProtectList) (k : ℕ) (x : Machine) (s : Stretch) : Type 0 where
  pub number : SixToEleven s.stop
  pub whole : StopsFrom d p k x s.last s.stop (pointer_of k x.state)
  pub stretch : StopsFrom d p k x s.last s.stop s.first
  pub latest : (f : ℕ) → s.first < f → StopsFrom d p k x s.last s.stop f → ⊥
