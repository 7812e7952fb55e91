-- A state with a seat's pointer moved: what is read of it, and that checks 20 and 1 to 3 see no difference.
use Prim.Native.Nat.{ℕ}
use mathlib.Core.Path.{◌≡◌, refl, ap}
use mathlib.Core.List.{List}
use mathlib.Core.Bool.{Bool, true, false, cond}
use lib.Dec.{eqb}
use lib.ListN.{length}
use Rattle.protection.specs.Form.{ProtectList}
use Rattle.machine.specs.declared.state.Registers.{Registers}
use Rattle.machine.specs.declared.state.State.{State}
use Rattle.machine.specs.Check.{state_formed}
use Rattle.machine.specs.Decide.{held_stop, entry_stop, pointer_of}
use Rattle.machine.specs.Machine.{Machine, machine}
use Rattle.machine.specs.Run.{entry_of, ran}
use Rattle.machine.specs.Seats.{registers_of, other_of}
use Rattle.machine.specs.Status.{status_formed}
use Rattle.machine.proofs.Seats.{registers_seated, seated_own}
use Rattle.stretch.specs.Trial.{pointing, pointed, start_at, trial_from}

pub pointed_pointer : (k f : ℕ) (s : State) → pointer_of k (pointed k f s) ≡ f
unfolding pointed
pointed_pointer k f s = ap (λ (g : Registers). g.status.pointer) (registers_seated k (pointing f (registers_of k s)) (other_of k s) s.used)

-- where it is anyway
pub pointed_own : (k : ℕ) (s : State) → pointed k (pointer_of k s) s ≡ s
unfolding pointed
pointed_own k s = seated_own k s

pub whole_run : (d : List ℕ) (p : ProtectList) (k : ℕ) (x : Machine) → trial_from d p k x (pointer_of k x.state) ≡ ran d p k 4294967295 x
whole_run d p k x = ap (λ (s : State). ran d p k 4294967295 (machine s x.memory x.journal)) (pointed_own k x.state)

pub pointed_used : (k f : ℕ) (s : State) → (pointed k f s).used ≡ s.used
unfolding pointed
pointed_used k f s = refl

-- the checks look at no pointer
pub pointed-entry : (d : List ℕ) (p : ProtectList) (k f : ℕ) (x : Machine) → entry_of d p k (start_at k f x) ≡ entry_of d p k x
unfolding pointed registers_of other_of entry_stop held_stop state_formed status_formed
pointed-entry d p k f x = cases (eqb k 0)
  where
    s : State
    s = x.state

    g : Bool → Registers
    g b = cond b x.state.seat0 x.state.seat1

    o : Bool → Registers
    o b = cond b x.state.seat1 x.state.seat0

    cases :
        (b : Bool) →
        entry_stop k (length d) p (cond b (pointing f (g b)) (o b)).status (cond b (o b) (pointing f (g b))).status x.state.used (length x.memory) (length x.journal) ≡
        entry_stop k (length d) p x.state.seat0.status x.state.seat1.status x.state.used (length x.memory) (length x.journal)
    cases true = refl
    cases false = refl
