-- The shortest stretch that still stops as C sees it: a number, two orders and a stop (document 02, Job 13).
use Rattle.std.specs.Prelude.{ℕ, ◌≡◌, List}
use Rattle.hexfloat.specs.Answer.{Answer, gives, stops}
use Rattle.protection.specs.Form.{ProtectList}
use Rattle.machine.specs.Machine.{Machine}
use Rattle.stretch.specs.Answer.{Asked}
use Rattle.stretch.specs.Stretch.{Stretch}
use Rattle.panel.specs.declared.interval.Interval.{Interval}

-- a refusal names no order and no stop
abbrev pub interval_of : Answer Stretch → Interval
interval_of (gives s) = record { number = 0; first = s.first; last = s.last; stop = s.stop }
interval_of (stops k) = record { number = k; first = 0; last = 0; stop = 0 }

-- what was asked of x, and left y behind, as C sees it
pub record TellsStretch (d : List ℕ) (p : ProtectList) (k : ℕ) (x y : Machine) (r : Interval) : Type 0 where
  pub answer : Answer Stretch
  pub asked : Asked d p k x y answer
  pub told : r ≡ interval_of answer
