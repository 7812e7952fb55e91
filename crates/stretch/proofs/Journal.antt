-- What a run comes to does not depend on the journal's words.
use Prim.Native.Nat.{ℕ}
use mathlib.Core.Path.{◌≡◌, sym, ap, ◌∙◌}
use mathlib.Core.List.{List, [], ◌∷◌}
use lib.ListN.{length}
use Rattle.protection.specs.Form.{ProtectList}
use Rattle.machine.specs.declared.state.State.{State}
use Rattle.machine.specs.Machine.{Machine, machine}
use Rattle.machine.specs.Run.{ran}
use Rattle.conditions.specs.Trail.{run, entry, trail, reply_of, traced, called, replies, AllCovered}
use Rattle.conditions.specs.Theorems.{Typed, Included}
use Rattle.conditions.proofs.Theorems.{theorems}

-- the list of one run is covered
run_covered : (d : List ℕ) (p : ProtectList) (k n : ℕ) (x : Machine) → Included d p x (run k n ∷ [])
unfolding AllCovered
run_covered d p k n x = (tt, tt)

-- a run on machines that differ in the words of the journal alone
module _ (d : List ℕ) (p : ProtectList) (k n : ℕ) (s : State) (m j l : List ℕ) (typed : Typed m) (same : length l ≡ length j) where
  abbrev a : Machine
  a = machine s m j

  abbrev b : Machine
  b = machine s m l

  alike_reply : reply_of (ran d p k n b) ∷ [] ≡ reply_of (ran d p k n a) ∷ []
  unfolding replies called
  alike_reply =
      (theorems.as_trail d p b (run k n ∷ []) typed (run_covered d p k n b)).answers
      ∙ ap (λ (i : ℕ). replies (traced d p i) (run k n ∷ []) (trail (entry s m) [])) same
      ∙ sym (theorems.as_trail d p a (run k n ∷ []) typed (run_covered d p k n a)).answers

  pub run_alike : reply_of (ran d p k n b) ≡ reply_of (ran d p k n a)
  run_alike = let h = alike_reply in cc
