-- A register that is read before it is set as C sees it: a number, whether there is such a read, and its order and register (document 02, Job 11).
use Rattle.std.specs.Prelude.{ℕ, ◌+◌, ◌≡◌, List}
use Rattle.hexfloat.specs.Answer.{Answer, gives, stops}
use Rattle.machine.specs.Uses.{Register, float, general}
use Rattle.unset.specs.Answer as asked
use Rattle.panel.specs.declared.finding.Finding.{Finding}

-- 0 a float register, 1 a general one of set 0, 2 of set 1
abbrev pub kind_of : Register → ℕ
kind_of (float r) = 0
kind_of (general s r) = 1 + s

abbrev pub number_of : Register → ℕ
number_of (float r) = r
number_of (general s r) = r

-- where there is no such read
abbrev pub nameless : ℕ → Finding
nameless n = record { number = n; found = 0; order = 0; kind = 0; reg = 0 }

-- order p reads register r
abbrev pub naming : ℕ → Register → Finding
naming p r = record { number = 0; found = 1; order = p; kind = kind_of r; reg = number_of r }

abbrev pub finding_of : Answer asked.Finding → Finding
finding_of (gives asked.nothing) = nameless 0
finding_of (gives (asked.unset p r)) = naming p r
finding_of (stops k) = nameless k

-- the deck's answer, as C sees it
pub record Tells (d : List ℕ) (f : Finding) : Type 0 where
  pub answer : Answer asked.Finding
  pub answers : asked.Answers d answer
  pub told : f ≡ finding_of answer
