use Rattle.std.proofs.Common.{◌≡◌, ◌+◌, ◌-◌}
use Rattle.protection.specs.Bits.{bitwise}
use Rattle.machine.specs.Check.{any_protected}
use Rattle.machine.proofs.check.any_protected.Given as goal

abbrev pub invariant-loop-a : goal.invariant-loop-a
invariant-loop-a l = any_protected (bitwise l.protect) l.at l.n ≡ any_protected (bitwise l.protect) l.a (l.at + l.n - l.a)
