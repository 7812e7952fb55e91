-- What a step that is taken leaves to its seat, to the other, and to checks 2 and 3.
use Prim.Native.Nat.{ℕ, ◌+◌}
use mathlib.Core.Path.{◌≡◌, ◌∙◌}
use mathlib.Core.List.{List}
use lib.ListN.{length}
use native.Mathlib.Omega.{arith}
use Rattle.protection.specs.Form.{ProtectList}
use Rattle.machine.specs.declared.state.State.{State}
use Rattle.machine.specs.declared.verdict.Effect.{Effect}
use Rattle.machine.specs.Change.{registers_after}
use Rattle.machine.specs.Decide.{held_in}
use Rattle.machine.specs.Machine.{Machine, state_after, committed}
use Rattle.machine.specs.Seats.{registers_of, other_of}
use Rattle.machine.proofs.Checks.{held_zero}
use Rattle.machine.proofs.Decided.{Taken}
use Rattle.machine.proofs.Seats.{registers_seated, other_seated, held_seated}

-- a step that is taken leaves a state that passes checks 2 and 3
pub held_after :
    (d : List ℕ) (p : ProtectList) (k : ℕ) (s : State) (m : List ℕ) (journal : ℕ) (e : Effect) → Taken d p k s m journal e →
    held_in p (state_after k e (s.used + 1) s) (length m) journal ≡ 0
held_after d p k s m journal e t =
    held_seated k (registers_after e (registers_of k s)) (other_of k s) (s.used + 1) p (length m) journal
    ∙ held_zero p e.status (other_of k s).status (s.used + 1) (length m) journal
    (record {
      memory_size = t.held.memory_size;
      journal_size = t.held.journal_size;
      cover = t.held.cover;
      own = record { condition = t.fine.condition; mask = t.fine.mask; selector = t.fine.selector };
      beside = t.held.beside;
      room = omega (arith, t.room);
    })

-- what a step of seat k leaves to it, and to the other
module _ (k : ℕ) (e : Effect) (x : Machine) where
  pub registers_after_lem : registers_of k (committed k e x).state ≡ registers_after e (registers_of k x.state)
  registers_after_lem = registers_seated k (registers_after e (registers_of k x.state)) (other_of k x.state) (x.state.used + 1)

  pub other_after : other_of k (committed k e x).state ≡ other_of k x.state
  other_after = other_seated k (registers_after e (registers_of k x.state)) (other_of k x.state) (x.state.used + 1)
