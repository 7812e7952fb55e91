-- The promise as a whole, by its three ways.
use Prim.Native.Nat.{ℕ, ◌/◌, ◌<◌}
use lib.ListN.{length}
use mathlib.Core.Path.{◌≡◌, refl, sym, subst}
use mathlib.Core.List.{List}
use mathlib.Core.Bool.{Bool, true, false}
use borrow.Author.Tests.{eqb-false}
use Rattle.std.specs.Prelude.{Result, Err, ⊤}
use Rattle.std.specs.Bool.{MatchBool}
use Rattle.hexfloat.specs.Answer.{Answer, gives, stops, checked}
use Rattle.machine.specs.declared.stop.Stop.{Stop}
use Rattle.machine.specs.Says.{says_passed}
use Rattle.machine.specs.Stops.{number_of}
use Rattle.machine.proofs.Passed.{passed, failed}
use Rattle.protection.specs.Form.{ProtectList}
use Rattle.machine.specs.Machine.{Machine}
use Rattle.machine.specs.Run.{entry_of}
use Rattle.stretch.specs.Answer.{Answers, refused, jump, TakenBack, Asked}
use Rattle.stretch.specs.Jump.{IsJump, HasJump, SaysJump}
use Rattle.stretch.specs.Stretch.{Stretch}
use Rattle.stretch.proofs.Searching.{left_all}

pub says_jump : (d : List ℕ) {b : Bool} → b ≡ true → SaysJump d b → HasJump d
says_jump d h s = subst (SaysJump d) h s

pub says_none : (d : List ℕ) {b : Bool} → b ≡ false → SaysJump d b → HasJump d → ⊥
says_none d h s = subst (SaysJump d) h s

-- by what `any` says of every order
pub jump_said : (d : List ℕ) (r : Bool) → MatchBool r ((q : ℕ) × (q < length d / 4) × IsJump d q) ((q : ℕ) → q < length d / 4 → IsJump d q → ⊥) → SaysJump d r
jump_said d true h = record { order = h.0; inside = h.1; jump = h.2 }
jump_said d false h = λ j. h j.order j.inside j.jump

module _ (d : List ℕ) (p : ProtectList) (k : ℕ) (x : Machine) where
  -- a check refuses, and nothing is done
  pub asked_refused : {r : Result ⊤ Stop} {stop : Stop} → says_passed r ≡ checked (entry_of d p k x) (gives tt) → r ≡ Err stop → Asked d p k x x (stops (number_of stop))
  asked_refused said is =
      let f = failed (entry_of d p k x) said is in
      record {
        answers = subst (λ (i : ℕ). Answers d p k x (stops i)) (sym f.1) (refused (eqb-false _ 0 f.0));
        left = left_all x;
        untouched = λ z. refl;
      }

  pub asked_jump : entry_of d p k x ≡ 0 → HasJump d → Asked d p k x x (stops 21)
  asked_jump entered h = record { answers = jump entered h; left = left_all x; untouched = λ z. refl }

  pub asked_found : entry_of d p k x ≡ 0 → {y : Machine} {a : Answer Stretch} → Answers d p k x a → TakenBack x y → Asked d p k x y a
  asked_found entered answers left = record { answers = answers; left = left; untouched = λ z. absurd (z entered) }

-- what the search cites for the promise
pub ruleset answering = (asked_refused, asked_jump, asked_found, passed, says_jump, says_none)
