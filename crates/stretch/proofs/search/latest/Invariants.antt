use Prim.Native.Nat.{◌≤◌}
use mathlib.Core.Path.{◌≡◌}
use lib.ListN.{length}
use Rattle.protection.specs.Bits.{bitwise}
use Rattle.machine.specs.Machine.{machine}
use Rattle.stretch.proofs.Searching.{Sought}
use Rattle.stretch.proofs.search.latest.Given as goal

abbrev pub invariant-loop-before : goal.invariant-loop-before
invariant-loop-before l =
    (l.pointer ≤ l.before) × Sought l.deck (bitwise l.protect) l.seat (machine l.s l.initial.memory l.initial.journal) (machine l.s l.memory l.journal) l.last l.number l.before
    × (length l.memory ≡ length l.initial.memory)
    × (length l.journal ≡ length l.initial.journal)
