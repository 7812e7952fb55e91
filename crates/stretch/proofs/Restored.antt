-- The records of a run put memory back as it was.
use Prim.Native.Nat.{ℕ, zero, suc, ◌+◌, ◌-◌, ◌*◌, ◌/◌, ◌%◌, ◌^◌, ◌<◌, ◌≤◌}
use mathlib.Core.Path.{◌≡◌, refl, ap, ◌∙◌}
use mathlib.Core.List.{List}
use mathlib.Core.Bool.{true}
use lib.ListN.{length}
use native.Mathlib.Nat.{add-zero}
use native.Mathlib.Omega.{arith}
use borrow.Author.Tests.{le-leb}
use Rattle.hexfloat.specs.Answer.{Answer, gives, stops}
use Rattle.protection.specs.Form.{ProtectList}
use Rattle.machine.specs.declared.change.Change.{Change}
use Rattle.machine.specs.declared.state.Status.{Status}
use Rattle.machine.specs.declared.verdict.Effect.{Effect}
use Rattle.machine.specs.Change.{placed, old_of, memory_after}
use Rattle.machine.specs.Journal.{record_at, encoded_as, encoded}
use Rattle.machine.specs.Machine.{Machine, before_of, committed}
use Rattle.machine.specs.Run.{repeated, steps_of, ran}
use Rattle.machine.specs.Seats.{registers_of}
use Rattle.machine.specs.Status.{packed}
use Rattle.machine.specs.Step.{Outcome, onward, verdict_of}
use Rattle.machine.proofs.Checks.{condition_below}
use Rattle.machine.proofs.Decided.{decided_taken}
use Rattle.conditions.specs.Theorems.{Typed}
use Rattle.conditions.proofs.Journals.{steps_leave, run_either}
use Rattle.conditions.proofs.Records.{record_agrees}
use Rattle.conditions.proofs.Restore.{memory_back, placed_old, memory_length, memory_halfwords}
use Rattle.conditions.proofs.Theorems.{theorems}
use Rattle.stretch.specs.Restore.{saved_back, record_back, restored}

-- the kind in word 0
module _ (s : Status) (seat kind : ℕ) where
  kind_in : s.pointer < 65536 → s.condition < 4 → s.mask ≤ 1 → kind < 8 → (packed s + 2 ^ 23 * seat + 2 ^ 19 * kind) / 2 ^ 19 % 8 ≡ kind
  unfolding packed
  kind_in p c m k = omega arith

  no_kind_in : s.pointer < 65536 → s.condition < 4 → s.mask ≤ 1 → (packed s + 2 ^ 23 * seat) / 2 ^ 19 % 8 ≡ 0
  unfolding packed
  no_kind_in p c m = omega arith

-- the record of a change to old contents puts these back
saved_encoded :
    (seat : ℕ) (s : Status) (ch : Change) (m : List ℕ) → s.pointer < 65536 → s.condition < 4 → s.mask ≤ 1 → placed ch (length m) ≡ true →
    saved_back (encoded_as (packed s + 2 ^ 23 * seat) ch) m ≡ memory_after ch m
unfolding saved_back encoded_as memory_after placed
saved_encoded seat s Change.Nothing m p c b h = rw (no_kind_in s seat 0 p c b)
saved_encoded seat s (Change.Float r w) m p c b h = rw (kind_in s seat 1 p c b (omega arith))
saved_encoded seat s (Change.Pair r x y) m p c b h = rw (kind_in s seat 2 p c b (omega arith))
saved_encoded seat s (Change.General r w) m p c b h = rw (kind_in s seat 3 p c b (omega arith))
saved_encoded seat s (Change.Two a w) m p c b h = rw (kind_in s seat 4 p c b (omega arith), h)
saved_encoded seat s (Change.Four a x y) m p c b h = rw (kind_in s seat 5 p c b (omega arith), h)

-- the first record comes last
restored_front : (j : List ℕ) (first n : ℕ) (m : List ℕ) → restored j first (suc n) m ≡ record_back j first (restored j (first + 1) n m)
unfolding restored
restored_front j first zero m = ap (λ (i : ℕ). record_back j i m) (add-zero first)
restored_front j first (suc n) m =
    let same : first + suc n ≡ first + 1 + n = omega arith in
    restored_front j first n (record_back j (first + suc n) m) ∙ ap (λ (i : ℕ). record_back j first (restored j (first + 1) n (record_back j i m))) same

module _ (d : List ℕ) (p : ProtectList) (k : ℕ) where
  -- a step's record, in a journal to which later steps wrote theirs
  step_restored :
      (x : Machine) (e : Effect) (n : ℕ) → Typed x.memory → verdict_of d p k x ≡ gives e →
      record_back (steps_of d p k n (committed k e x)).after.journal x.state.used (committed k e x).memory ≡ x.memory
  unfolding record_back
  step_restored x e n typed t =
      let y = committed k e x in
      let g = registers_of k x.state in
      let taken = decided_taken d p k x.state x.memory (length x.journal) e t in
      let one = theorems.one_record d p k x e typed t in
      let later = steps_leave d p k n y in
      let l = (steps_of d p k n y).after.journal in
      let there : record_at l x.state.used ≡ encoded k (before_of g x.memory e) =
      record_agrees y.journal l x.state.used (λ i b. later.below i (omega arith)) ∙ one.saved in
      let room : x.state.used * 4 + 4 ≤ length l = omega (arith, later.words, one.words, taken.room) in
      let fits : placed (old_of g x.memory e.change) (length y.memory) ≡ true =
      placed_old g x.memory (length y.memory) e.change ∙ ap (placed e.change) (memory_length e.change x.memory) ∙ taken.fine.there in
      rw (le-leb (x.state.used * 4 + 4) (length l) room, there)
      (saved_encoded k g.status (old_of g x.memory e.change) y.memory taken.pointer (condition_below g.status.condition taken.held.own.condition)
      taken.held.own.mask fits
      ∙ memory_back g x.memory typed.halfword e.change)

  -- memory as a run's records put it back
  abbrev put_back : Machine → Outcome Machine → List ℕ
  put_back x r = restored r.after.journal x.state.used r.taken r.after.memory

  steps-restored :
      (n : ℕ) (x : Machine) → Typed x.memory → put_back x (steps_of d p k n x) ≡ x.memory
  unfolding repeated restored
  steps-restored zero x typed = refl
  steps-restored (suc n) x typed = cases (verdict_of d p k x) refl (steps-restored n)
    where
      cases :
          (v : Answer Effect) → verdict_of d p k x ≡ v →
          ((y : Machine) → Typed y.memory → put_back y (steps_of d p k n y) ≡ y.memory) →
          put_back x (onward v x (λ e. committed k e x) (steps_of d p k n)) ≡ x.memory
      cases (stops i) t rest = refl
      cases (gives e) t rest =
          let y = committed k e x in
          let r = steps_of d p k n y in
          let more : r.taken + 1 ≡ suc r.taken = omega arith in
          let still : Typed y.memory = record { halfword = memory_halfwords e.change x.memory typed.halfword } in
          ap (λ (i : ℕ). restored r.after.journal x.state.used i r.after.memory) more
          ∙ restored_front r.after.journal x.state.used r.taken r.after.memory
          ∙ ap (record_back r.after.journal x.state.used) (rest y still)
          ∙ step_restored x e n typed t

  pub run_restored : (limit : ℕ) (x : Machine) → Typed x.memory → put_back x (ran d p k limit x) ≡ x.memory
  unfolding restored
  run_restored limit x typed = run_either d p k (λ r. put_back x r ≡ x.memory) limit x (steps-restored limit x typed) refl

-- one record more of those that are left
pub restored_on : (j : List ℕ) (first n : ℕ) (m : List ℕ) → 0 < n → restored j first n m ≡ restored j first (n - 1) (record_back j (first + (n - 1)) m)
unfolding restored
restored_on j first zero m h = absurd (omega arith)
restored_on j first (suc n) m h = let one : suc n - 1 ≡ n = omega arith in rw one

pub restored_none : (j : List ℕ) (first n : ℕ) (m : List ℕ) → n ≡ 0 → restored j first n m ≡ m
unfolding restored
restored_none j first n m h = rw h
