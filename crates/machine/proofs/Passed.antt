-- The checks that a call makes first, by what the code answers of them: they pass, or the number of the first that does not is the whole answer.
use Rattle.std.proofs.Common.{◌≡◌, ℕ, Bool, true, false, Result, Ok, Err, eqb, sym, refl, ap, ◌∙◌}
use Rattle.std.specs.Prelude.{⊤, IsErrAnd}
use Rattle.std.proofs.lemmas.Result.{err_from_is_err_and}
use Rattle.hexfloat.specs.Answer.{Answer, gives, stops, provided, checked}
use Rattle.hexfloat.proofs.Answers.{checked_gives, never, stops_inj}
use Rattle.machine.specs.declared.stop.Stop.{Stop}
use Rattle.machine.specs.Says.{says_passed}
use Rattle.machine.specs.Stops.{number_of}

pub passed : (n : ℕ) {r : Result ⊤ Stop} {u : ⊤} → says_passed r ≡ checked n (gives tt) → r ≡ Ok u → n ≡ 0
passed n said is = (checked_gives n (gives tt) (sym said ∙ ap says_passed is)).0

-- the number is that of the check, and not 0
pub failed : (n : ℕ) {r : Result ⊤ Stop} {k : Stop} → says_passed r ≡ checked n (gives tt) → r ≡ Err k → (eqb n 0 ≡ false) × (number_of k ≡ n)
failed n {k = k} said is = cases (eqb n 0) refl (sym (ap says_passed is) ∙ said)
  where
    cases : (b : Bool) → eqb n 0 ≡ b → ◌≡◌ {A = Answer ⊤} (stops (number_of k)) (provided b n (gives tt)) → (eqb n 0 ≡ false) × (number_of k ≡ n)
    cases true e h = never h
    cases false e h = (e, stops_inj h)

-- whatever would come after the checks
pub refused : {A : Type 0} (n : ℕ) (rest : Answer A) {r : Result ⊤ Stop} {k : Stop} → says_passed r ≡ checked n (gives tt) → r ≡ Err k → stops (number_of k) ≡ checked n rest
refused n rest said is = let f = failed n said is in rw (f.0, f.1)

-- what `?` hands on is the stop that it was given
pub handed : {A : Type 0} (r : Result A Stop) (e : Stop) → IsErrAnd r (λ y. y ≡ e) → r ≡ Err e
handed r e h = let p = err_from_is_err_and r h in p.1 ∙ ap Err p.2
