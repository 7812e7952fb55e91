-- A call of one seat leaves the other's registers and status.
use Rattle.std.specs.Prelude.{Option, Some, None}
use Prim.Native.Nat.{ℕ, zero, suc, ◌+◌, ◌-◌, ◌≤◌}
use mathlib.Core.Path.{◌≡◌, refl, sym, ap, ◌∙◌}
use mathlib.Core.List.{List}
use mathlib.Core.Bool.{Bool, true, false, cond}
use lib.Dec.{eqb}
use lib.ListN.{length}
use native.Mathlib.Omega.{arith}
use borrow.Author.Tests.{eqb-true, eqb-false}
use Rattle.hexfloat.specs.Answer.{Answer, gives, stops}
use Rattle.protection.specs.Form.{ProtectList}
use Rattle.machine.specs.declared.journal.Record.{Record}
use Rattle.machine.specs.declared.state.Registers.{Registers}
use Rattle.machine.specs.declared.state.State.{State}
use Rattle.machine.specs.declared.verdict.Effect.{Effect}
use Rattle.machine.specs.Back.{returning, last_seat, backed_by, backed}
use Rattle.machine.specs.Change.{registers_after}
use Rattle.machine.specs.Journal.{record_at, seat_in}
use Rattle.machine.specs.Machine.{Machine, state_after, committed}
use Rattle.machine.specs.Run.{repeated, entry_of, ran}
use Rattle.machine.specs.Seats.{registers_of, other_of, seated}
use Rattle.machine.specs.Step.{Outcome, outcome, onward, verdict_of, stepped}
use Rattle.machine.proofs.Decided.{decided_taken}
use Rattle.conditions.specs.Theorems.{OtherSeat, LeavesOther}

-- of two seats one is the other of the other
module _ (k j : ℕ) (hk : k ≤ 1) (hj : j ≤ 1) (not : j ≡ k → ⊥) where
  -- one is 0 exactly where the other is not
  apart_seats : (P : Bool → Bool → Type 0) → P true false → P false true → P (eqb k 0) (eqb j 0)
  apart_seats P a b = cases (eqb k 0) (eqb j 0) refl refl
    where
      cases : (x y : Bool) → eqb k 0 ≡ x → eqb j 0 ≡ y → P x y
      cases true true e f = absurd (not (eqb-true j 0 f ∙ sym (eqb-true k 0 e)))
      cases true false e f = a
      cases false true e f = b
      cases false false e f = absurd (both (eqb-false k 0 e) (eqb-false j 0 f))
        where
          both : (k ≡ 0 → ⊥) → (j ≡ 0 → ⊥) → ⊥
          both u v = not (omega arith)

  pub other_there : (s : State) → other_of k s ≡ registers_of j s
  unfolding registers_of other_of
  other_there s = apart_seats (λ x y. cond x s.seat1 s.seat0 ≡ cond y s.seat0 s.seat1) refl refl

  other_stays : (g o : Registers) (used : ℕ) → registers_of j (seated k g o used) ≡ o
  unfolding registers_of
  other_stays g o used = apart_seats (λ x y. cond y (cond x g o) (cond x o g) ≡ o) refl refl

  -- an effect on seat k
  pub effect_leaves : (e : Effect) (used : ℕ) (s : State) → registers_of j (state_after k e used s) ≡ registers_of j s
  effect_leaves e used s = other_stays (registers_after e (registers_of k s)) (other_of k s) used ∙ other_there s

module _ (d : List ℕ) (p : ProtectList) (k : ℕ) where
  onward_leaves :
      (x : Machine) (f : Machine → Outcome Machine) → ((y : Machine) → OtherSeat k y (f y).after) →
      OtherSeat k x (onward (verdict_of d p k x) x (λ e. committed k e x) f).after
  onward_leaves x f rest j hj not = cases (verdict_of d p k x) refl
    where
      cases : (v : Answer Effect) → verdict_of d p k x ≡ v → registers_of j (onward v x (λ e. committed k e x) f).after.state ≡ registers_of j x.state
      cases (stops n) t = refl
      cases (gives e) t =
          rest (committed k e x) j hj not
          ∙ effect_leaves k j (decided_taken d p k x.state x.memory (length x.journal) e t).seat hj not e (x.state.used + 1) x.state

  repeated_leaves : (n : ℕ) (x : Machine) → OtherSeat k x (repeated (verdict_of d p k) (λ y e. committed k e y) n x).after
  unfolding repeated
  repeated_leaves zero x = λ j hj not. refl
  repeated_leaves (suc n) x = onward_leaves x (repeated (verdict_of d p k) (λ y e. committed k e y) n) (repeated_leaves n)

  step_leaves : (x : Machine) → OtherSeat k x (stepped d p k x).after
  unfolding stepped
  step_leaves x = onward_leaves x (λ y. outcome y 0 0) (λ y j hj not. refl)

  run_leaves : (limit : ℕ) (x : Machine) → OtherSeat k x (ran d p k limit x).after
  unfolding ran
  run_leaves limit x = cases (eqb (entry_of d p k x) 0)
    where
      cases : (b : Bool) → OtherSeat k x (cond b (repeated (verdict_of d p k) (λ y e. committed k e y) limit x) (outcome x 0 (entry_of d p k x))).after
      cases true = repeated_leaves limit x
      cases false = λ j hj not. refl

-- of the seat there is one bit
one_bit : (q : Record) → seat_in q ≤ 1
unfolding seat_in
one_bit q = omega arith

-- a back step into the seat that its record names
back_leaves : (p : ProtectList) (k : ℕ) (x : Machine) → (backed p x).whose ≡ Some k → OtherSeat k x (backed p x).after
unfolding backed
back_leaves p k x h j hj not = cases (returning p x.state (length x.memory) x.journal) h
  where
    w : ℕ
    w = last_seat x.state x.journal

    named : Option ℕ → ℕ
    named None = 2
    named (Some n) = n

    cases : (v : Answer Effect) → (backed_by v w x).whose ≡ Some k → registers_of j (backed_by v w x).after.state ≡ registers_of j x.state
    cases (stops n) e = refl
    cases (gives a) e =
        let same : w ≡ k = ap named e in
        effect_leaves w j (one_bit (record_at x.journal (x.state.used - 1))) hj (λ z. not (z ∙ same)) a (x.state.used - 1) x.state

pub leaves_other : (d : List ℕ) (p : ProtectList) (k : ℕ) (x : Machine) → LeavesOther d p k x
leaves_other d p k x = record { step = step_leaves d p k x; run = λ limit. run_leaves d p k limit x; back = back_leaves p k x }
