-- A cause as C sees it: a number, and up to four values (document 02, Job 5).
use Rattle.std.specs.Prelude.{ℕ, ◌-◌, List, ◌++◌, length, replicate}
use Rattle.cause.specs.declared.naming.Cause.{Cause}
use Rattle.cause.specs.Cause.{values_of}
use Rattle.panel.specs.declared.value.Explanation.{Explanation}

-- n places, the values first and then 0
abbrev pub filled : ℕ → List ℕ → List ℕ
filled n vs = vs ++ replicate (n - length vs) 0

abbrev pub explanation_of : Cause → Explanation
explanation_of c = record { number = c.number; count = length (values_of c.named); values = filled 4 (values_of c.named) }
