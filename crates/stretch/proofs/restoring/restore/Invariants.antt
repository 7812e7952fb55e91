use mathlib.Core.Path.{◌≡◌}
use lib.ListN.{length}
use Rattle.stretch.specs.Restore.{restored}
use Rattle.stretch.proofs.restoring.restore.Given as goal

abbrev pub invariant-loop-i : goal.invariant-loop-i
invariant-loop-i l =
    (restored l.journal l.first l.count l.initial.memory ≡ restored l.journal l.first l.i l.memory) × (length l.memory ≡ length l.initial.memory)
