-- The numbers so far, and after them those that are left, are all that the text begins with.
use Rattle.std.proofs.Common.{◌≡◌, drop, length, take}
use Rattle.trial.specs.Number.{numbers_after, numbers_of}
use Rattle.trial.proofs.digits.numbers.Given as goal

abbrev pub invariant-loop-i : goal.invariant-loop-i
invariant-loop-i g l =
    (length l.values ≡ l.i-end)
    × (numbers_after l.base (take l.i l.values) l.rest (drop l.i l.fn.widths) ≡ numbers_of l.base l.text l.fn.widths)
