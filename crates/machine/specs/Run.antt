-- A run (document 01, 'Journal and back steps', second paragraph; document 02, Job 12).
use Rattle.std.specs.Prelude.{ℕ, zero, suc, cond, List, length, ◌==◌}
use Rattle.hexfloat.specs.Answer.{Answer}
use Rattle.protection.specs.Form.{ProtectList}
use Rattle.machine.specs.declared.verdict.Effect.{Effect}
use Rattle.machine.specs.Decide.{entry_in}
use Rattle.machine.specs.Machine.{Machine, committed}
use Rattle.machine.specs.Step.{Outcome, outcome, onward, verdict_of}

-- steps until the limit, which is looked at first, or a stop
unfoldable pub repeated : {W : Type 0} → (W → Answer Effect) → (W → Effect → W) → ℕ → W → Outcome W
repeated verdict take zero x = outcome x 0 0
repeated verdict take (suc n) x = onward (verdict x) x (take x) (repeated verdict take n)

-- of seat k, given how a step is decided
abbrev pub steps_by : (Machine → Answer Effect) → ℕ → ℕ → Machine → Outcome Machine
steps_by verdict k n x = repeated verdict (λ y e. committed k e y) n x

abbrev pub steps_of : List ℕ → ProtectList → ℕ → ℕ → Machine → Outcome Machine
steps_of d p k n x = steps_by (verdict_of d p k) k n x

-- checks 20 and 1 to 3 come first, at a limit of 0 too
abbrev pub admitted : {W : Type 0} → ℕ → W → Outcome W → Outcome W
admitted k x rest = cond (k == 0) rest (outcome x 0 k)

abbrev pub entry_of : List ℕ → ProtectList → ℕ → Machine → ℕ
entry_of d p k x = entry_in k (length d) p x.state (length x.memory) (length x.journal)

unfoldable pub ran : List ℕ → ProtectList → ℕ → ℕ → Machine → Outcome Machine
ran d p k limit x = admitted (entry_of d p k x) x (steps_of d p k limit x)
