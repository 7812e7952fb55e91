-- The digits that are left make of n what all make of 0.
use Rattle.std.proofs.Common.{◌≡◌, drop}
use Rattle.trial.specs.Number.{number_after, number_of}
use Rattle.trial.proofs.digits.number.Given as goal

abbrev pub invariant-loop-byte : goal.invariant-loop-byte
invariant-loop-byte l = number_after l.base l.n (drop l.byte-index l.digits) ≡ number_of l.base l.digits
