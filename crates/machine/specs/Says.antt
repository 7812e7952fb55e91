-- A verdict in the paper's terms: the number of a stop, or an effect.
use Rattle.std.specs.Prelude.{Result, Ok, Err, ⊤}
use Rattle.hexfloat.specs.Answer.{Answer, gives, stops}
use Rattle.machine.specs.declared.verdict.Effect.{Effect}
use Rattle.machine.specs.declared.stop.Stop.{Stop}
use Rattle.machine.specs.Stops.{number_of}

abbrev pub says : Result Effect Stop → Answer Effect
says (Ok e) = gives e
says (Err k) = stops (number_of k)

-- the same where nothing is handed on: all checks pass, or the number of one that does not
abbrev pub says_passed : Result ⊤ Stop → Answer ⊤
says_passed (Ok u) = gives u
says_passed (Err k) = stops (number_of k)
