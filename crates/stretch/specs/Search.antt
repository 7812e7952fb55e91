-- For the private functions: trials with a limit, and the search from the last order down.
use Rattle.std.specs.Prelude.{ℕ, ◌+◌, ◌-◌, ◌<◌, ◌≤◌, ◌≡◌, List, Bool, true, false, ◌&&◌, eqb}
use Rattle.protection.specs.Form.{ProtectList}
use Rattle.machine.specs.declared.state.State.{State}
use Rattle.machine.specs.Machine.{Machine}
use Rattle.machine.specs.Run.{ran}
use Rattle.stretch.specs.Answer.{TakenBack}
use Rattle.stretch.specs.Trial.{start_at}

-- a run of seat k from x, which ended so and was taken back to y
pub record CameTo (d : List ℕ) (p : ProtectList) (k limit : ℕ) (x y : Machine) (after : State) (count number : ℕ) : Type 0 where
  pub state : after ≡ (ran d p k limit x).after.state
  pub taken : count ≡ (ran d p k limit x).taken
  pub stop : number ≡ (ran d p k limit x).stop
  pub left : TakenBack x y

-- the run of seat k from order f, given as many steps as there are orders from there to `last`, takes all but one and stops by `stop`
unfoldable pub stops_alike : List ℕ → ProtectList → ℕ → Machine → ℕ → ℕ → ℕ → Bool
stops_alike d p k x last stop f =
    eqb (ran d p k (last - f + 1) (start_at k f x)).taken (last - f) && eqb (ran d p k (last - f + 1) (start_at k f x)).stop stop

-- a trial that says whether it stopped so, and was taken back
pub record Tried (d : List ℕ) (p : ProtectList) (k : ℕ) (x y : Machine) (last stop f : ℕ) (alike : Bool) : Type 0 where
  pub says : alike ≡ stops_alike d p k x last stop f
  pub left : TakenBack x y

-- of the orders from the pointer to `last` the highest from which it does, or the pointer
pub record Latest (d : List ℕ) (p : ProtectList) (k : ℕ) (x y : Machine) (pointer last stop first : ℕ) : Type 0 where
  pub within : first ≤ last
  pub least : pointer ≤ first
  pub alike : pointer < first → stops_alike d p k x last stop first ≡ true
  pub none : (f : ℕ) → first < f → f ≤ last → stops_alike d p k x last stop f ≡ false
  pub left : TakenBack x y
