-- What a search answers, as C sees it: the state that it hands back is the one that it was given.
use Prim.Native.Nat.{ℕ}
use mathlib.Core.Path.{◌≡◌, subst}
use mathlib.Core.List.{List}
use Rattle.hexfloat.specs.Answer.{Answer}
use Rattle.protection.specs.Form.{ProtectList}
use Rattle.machine.specs.declared.state.State.{State}
use Rattle.machine.specs.Machine.{machine}
use Rattle.stretch.specs.Answer.{Asked}
use Rattle.stretch.specs.Stretch.{Stretch}
use Rattle.panel.specs.declared.interval.Interval.{Interval}
use Rattle.panel.specs.Stretch.{interval_of, TellsStretch}

pub told_stretch :
    (d : List ℕ) (p : ProtectList) (k : ℕ) (s : State) (m j : List ℕ) {t : State} {n l : List ℕ} {a : Answer Stretch} {r : Interval} →
    Asked d p k (machine s m j) (machine t n l) a → r ≡ interval_of a → TellsStretch d p k (machine s m j) (machine s n l) r
told_stretch d p k s m j {t} {n} {l} {a} asked told = record {
  answer = a;
  asked = subst (λ (z : State). Asked d p k (machine s m j) (machine z n l) a) asked.left.state asked;
  told = told;
}
