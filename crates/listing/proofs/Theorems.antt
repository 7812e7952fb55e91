-- The theorem of specs/Theorems.antt. A run whose stop is 0 took a step for each of its limit, each step fills a record of the journal, and the journal of
-- 4,096 words has room for 1,024.
use Prim.Native.Nat.{ℕ, zero, suc, ◌+◌, ◌*◌, ◌/◌, ◌≤◌}
use mathlib.Core.Path.{◌≡◌, refl}
use mathlib.Core.Bool.{Bool, true, false}
use mathlib.Core.List.{List}
use native.Mathlib.Omega.{arith}
use lib.Dec.{eqb}
use lib.ListN.{length, replicate, take, length-set}
use borrow.Author.Tests.{eqb-false}
use Rattle.hexfloat.specs.Answer.{Answer, gives, stops}
use Rattle.protection.specs.Form.{ProtectList}
use Rattle.machine.specs.declared.verdict.Effect.{Effect}
use Rattle.machine.specs.Fresh.{fresh_state}
use Rattle.machine.specs.Journal.{written}
use Rattle.machine.specs.Machine.{Machine, machine, committed}
use Rattle.machine.specs.Run.{repeated, steps_of, admitted, entry_of, ran}
use Rattle.machine.specs.Step.{Outcome, onward, verdict_of}
use Rattle.hexfloat.proofs.Answers.{StopsBy}
use Rattle.machine.proofs.Decided.{decided_taken}
use Rattle.machine.proofs.Refusals.{decided_by}
use Rattle.decktext.specs.Read.{Buffers}
use Rattle.listing.specs.Listing.{ran_from}
use Rattle.listing.specs.Theorems.{Desk}

module _ (d : List ℕ) (p : ProtectList) (k : ℕ) where
  abbrev steps : ℕ → Machine → Outcome Machine
  steps n x = steps_of d p k n x

  -- n steps were taken, so the journal had room for them
  Room : ℕ → Machine → Type 0
  Room n x = x.state.used ≤ length x.journal / 4 → (steps n x).stop ≡ 0 → x.state.used + n ≤ length x.journal / 4

  on : (n : ℕ) (x : Machine) (a : Answer Effect) → verdict_of d p k x ≡ a → StopsBy (λ n. 1 ≤ n) a → ((y : Machine) → Room n y)
      → x.state.used ≤ length x.journal / 4 → (onward a x (λ e. committed k e x) (steps n)).stop ≡ 0 → x.state.used + suc n ≤ length x.journal / 4
  unfolding written Room
  on n x (stops i) e r rest h z = absurd (omega (arith, r))
  on n x (gives f) e r rest h z =
      let t = decided_taken d p k x.state x.memory (length x.journal) f e in
      let same : length (committed k f x).journal ≡ length x.journal = simp length-set in
      let more : x.state.used + 1 ≤ length (committed k f x).journal / 4 = rw same (omega (arith, t.room)) in
      let all : x.state.used + 1 + n ≤ length x.journal / 4 = rw same at (rest (committed k f x) more z) in
      omega arith

  room : (n : ℕ) (x : Machine) → Room n x
  unfolding repeated Room
  room zero x h z = omega arith
  room (suc n) x h z =
      on n x (verdict_of d p k x) refl (decided_by (λ n. 1 ≤ n) (λ n l u. l) d p k x.state x.memory (length x.journal) (λ h. omega arith)) (room n) h z

  entered : (first limit : ℕ) (x : Machine) (b : Bool) → eqb first 0 ≡ b → x.state.used ≤ length x.journal / 4
      → (admitted first x (steps limit x)).stop ≡ 0 → x.state.used + limit ≤ length x.journal / 4
  unfolding Room
  entered first limit x true e h z = room limit x h (rw e at z)
  entered first limit x false e h z = absurd (eqb-false first 0 e (rw e at z))

-- whatever the orders are
runs_to_a_stop : (n : ℕ) (b : Buffers) → (ran_from n b).stop ≡ 0 → ⊥
unfolding ran
runs_to_a_stop n b z =
    let d = take (n * 4) b.cells in
    let x = machine fresh_state b.memory (replicate 4096 0) in
    let h : 0 + 4294967295 ≤ 4096 / 4 = entered d b.protect 0 (entry_of d b.protect 0 x) 4294967295 x (eqb (entry_of d b.protect 0 x) 0) refl (omega arith) z in
    omega arith

pub desk : Desk
desk = record { stops = λ text n h. runs_to_a_stop n _ }
