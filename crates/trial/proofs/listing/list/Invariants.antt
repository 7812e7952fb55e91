-- What stands is what the calls made so far leave, and the bytes of the others are still to come.
use Rattle.std.proofs.Common.{◌≡◌, ◌*◌, ◌++◌, List, ℕ, length}
use Rattle.std.specs.Slice.Iter.{chunks_exact_rest, chunks_exact_size}
use Rattle.protection.specs.Bits.{bitwise}
use Rattle.machine.specs.Machine.{machine}
use Rattle.trial.specs.Call.{after_calls}
use Rattle.trial.proofs.listing.list.Given as goal

abbrev pub invariant-loop-pair : goal.invariant-loop-pair
invariant-loop-pair l =
    (chunks_exact_size l.pair-iterator ≡ 2)
    × ((before : List ℕ) × (l.calls ≡ before ++ chunks_exact_rest l.pair-iterator) × (length before ≡ 2 * l.made))
    × (machine l.state l.memory l.journal ≡ after_calls l.calls l.deck (bitwise l.protect) l.made (machine l.initial.state l.initial.memory l.initial.journal))
