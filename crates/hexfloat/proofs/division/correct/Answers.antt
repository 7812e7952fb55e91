-- `correct` meets its contract: what is left is below the divisor, or is after one more is taken.
use mathlib.Core.Path.{refl}
use Rattle.hexfloat.proofs.Turns.{taken}
use Rattle.hexfloat.proofs.division.correct.Goals as goal

pub returns-then-rest-b : goal.returns-then-rest-b
returns-then-rest-b c = taken _ _ _ refl c.if-rest-b.true
