-- The numbers that calls answer: a step and a run 0 to 13, or 20 where there is no such seat, a back step 0, 2, 3, 14 or 15; and 0 is a call that was taken.
use Prim.Native.Nat.{ℕ, ◌+◌, ◌-◌, ◌/◌, ◌%◌, ◌^◌, ◌<◌, ◌≤◌}
use mathlib.Core.Path.{◌≡◌, refl, ap, subst}
use mathlib.Core.List.{List}
use mathlib.Core.Bool.{Bool, true, false, not}
use lib.Dec.{eqb, leb, ltb}
use lib.ListN.{length}
use native.Mathlib.Omega.{arith}
use borrow.Author.Tests.{eqb-true, eqb-false, lt-leb}
use Rattle.hexfloat.specs.Answer.{Answer, gives, stops}
use Rattle.protection.specs.Form.{ProtectList}
use Rattle.machine.specs.declared.change.Change.{Change}
use Rattle.machine.specs.declared.journal.Record.{Record}
use Rattle.machine.specs.declared.state.State.{State}
use Rattle.machine.specs.declared.verdict.Effect.{Effect}
use Rattle.machine.specs.Back.{allowed, returning, last_seat, backed_by, backed}
use Rattle.machine.specs.Change.{placed, guarded}
use Rattle.machine.specs.Decide.{held_in, entry_stop, decided}
use Rattle.machine.specs.Journal.{record_at, in_register, change_from, effect_from, decoded}
use Rattle.machine.specs.Machine.{Machine, committed}
use Rattle.machine.specs.Run.{entry_of, ran}
use Rattle.machine.specs.Status.{condition_formed, unpacked}
use Rattle.machine.specs.Step.{Outcome, outcome, onward, verdict_of, stepped}
use Rattle.hexfloat.proofs.Answers.{StopsBy, provided_by, checked_by, mapped_by, then_by, cond_by}
use Rattle.machine.proofs.Checks.{held_number}
use Rattle.machine.proofs.Refusals.{decided_by}
use Rattle.machine.proofs.Returning.{returning_gives}
use Rattle.conditions.specs.Theorems.{BackNumber, taken, buffers, state, nothing, broken, OneOfTheNumbers, ZeroIsTaken}
use Rattle.conditions.proofs.Leaves.{leaves_all}

-- a back step's stops
pub record BackStop (n : ℕ) : Type 0 where
  pub some : 1 ≤ n
  pub number : BackNumber n

breaks : BackStop 15
breaks = record { some = omega arith; number = broken }

register_by : (r unused : ℕ) (ch : Change) → StopsBy BackStop (in_register r unused ch)
register_by r unused ch = provided_by BackStop (leb r 7) 15 _ breaks (provided_by BackStop (eqb unused 0) 15 (gives ch) breaks tt)

change_by : (kind place left right : ℕ) → StopsBy BackStop (change_from kind place left right)
unfolding change_from
change_by kind place left right =
    cond_by BackStop (eqb kind 0) _ _
    (provided_by BackStop (eqb place 0) 15 _ breaks
    (provided_by BackStop (eqb left 0) 15 _ breaks
    (provided_by BackStop (eqb right 0) 15 (gives Change.Nothing) breaks tt)))
    (cond_by BackStop (eqb kind 1) _ _ (register_by place right (Change.Float place left))
    (cond_by BackStop (eqb kind 2) _ _ (register_by place 0 (Change.Pair place left right))
    (cond_by BackStop (eqb kind 3) _ _ (register_by place right (Change.General place left))
    (cond_by BackStop (eqb kind 4) _ _ (provided_by BackStop (eqb right 0) 15 (gives (Change.Two place left)) breaks tt)
    (cond_by BackStop (eqb kind 5) (gives (Change.Four place left right)) (stops 15) tt breaks)))))

decoded_by : (q : Record) → StopsBy BackStop (decoded q)
unfolding decoded
decoded_by q =
    provided_by BackStop (condition_formed (unpacked q.head).condition) 15 _ breaks
    (provided_by BackStop (ltb q.head (2 ^ 24)) 15 _ breaks
    (mapped_by BackStop (effect_from (unpacked q.head)) (change_from (q.head / 2 ^ 19 % 8) q.place q.left q.right) (change_by _ _ _ _)))

allowed_by : (e : Effect) (p : ProtectList) (memory : ℕ) → StopsBy BackStop (allowed e p memory)
unfolding allowed
allowed_by e p memory =
    provided_by BackStop (placed e.change memory) 15 _ breaks (provided_by BackStop (not (guarded p e.change)) 15 (gives e) breaks tt)

returning_by : (p : ProtectList) (s : State) (memory : ℕ) (j : List ℕ) → StopsBy BackStop (returning p s memory j)
unfolding returning
returning_by p s memory j =
    checked_by BackStop (held_in p s memory (length j)) _
    (held_number p s.seat0.status s.seat1.status s.used memory (length j) (λ n. (n ≡ 0 → ⊥) → BackStop n) (λ z. absurd (z refl))
    (λ z. record { some = omega arith; number = buffers }) (λ z. record { some = omega arith; number = state }))
    (provided_by BackStop (not (eqb s.used 0)) 14 _ (record { some = omega arith; number = nothing })
    (then_by BackStop (decoded (record_at j (s.used - 1))) (λ e. allowed e p memory) (decoded_by _) (λ e. allowed_by e p memory)))

module _ (k : ℕ) (x : Machine) where
  -- a step's outcome
  abbrev after : Answer Effect → Outcome Machine
  after a = onward a x (λ e. committed k e x) (λ y. outcome y 0 0)

  step_few : (a : Answer Effect) → StopsBy (λ n. n ≤ 13) a → (after a).stop ≤ 13
  step_few (stops n) s = s
  step_few (gives e) s = omega arith

  counts : (a : Answer Effect) → StopsBy (λ n. 1 ≤ n) a → (after a).stop ≡ 0 → (after a).taken ≡ 1
  counts (stops n) s h = absurd (omega (arith, s))
  counts (gives e) s h = refl

  up : (a : Answer Effect) → StopsBy (λ n. 1 ≤ n) a → (after a).stop ≡ 0 → (after a).after.state.used ≡ x.state.used + 1
  up (stops n) s h = absurd (omega (arith, s))
  up (gives e) s h = refl

  back_number : (a : Answer Effect) → StopsBy BackStop a → BackNumber (backed_by a k x).stop
  back_number (stops n) s = s.number
  back_number (gives e) s = taken

  down :
      (p : ProtectList) (a : Answer Effect) → returning p x.state (length x.memory) x.journal ≡ a → StopsBy BackStop a →
      (backed_by a k x).stop ≡ 0 → (backed_by a k x).after.state.used + 1 ≡ x.state.used
  down p (stops n) t s h = absurd (omega (arith, s.some))
  down p (gives e) t s h = omega (arith, (returning_gives p (length x.memory) x.state x.journal e t).used)

module _ (d : List ℕ) (p : ProtectList) where
  verdict_some : (k : ℕ) (x : Machine) → StopsBy (λ n. 1 ≤ n) (verdict_of d p k x)
  verdict_some k x = decided_by (λ n. 1 ≤ n) (λ n l u. l) d p k x.state x.memory (length x.journal) (λ h. omega arith)

  stepped_few : (k : ℕ) → k ≤ 1 → (x : Machine) → (stepped d p k x).stop ≤ 13
  unfolding stepped
  stepped_few k seat x =
      step_few k x (verdict_of d p k x) (decided_by (λ n. n ≤ 13) (λ n l u. u) d p k x.state x.memory (length x.journal) (λ h. absurd (omega arith)))

  -- a run that stops, stops as the next step would
  ran_few : (k : ℕ) → k ≤ 1 → (limit : ℕ) (x : Machine) → (ran d p k limit x).stop ≤ 13
  ran_few k seat limit x = cases (ran d p k limit x) (λ z. ((leaves_all d p x).run k limit).stopped z) (eqb (ran d p k limit x).stop 0) refl
    where
      cases : (r : Outcome Machine) → ((r.stop ≡ 0 → ⊥) → stepped d p k r.after ≡ outcome r.after 0 r.stop) → (b : Bool) → eqb r.stop 0 ≡ b → r.stop ≤ 13
      cases r stopped true e = omega (arith, eqb-true r.stop 0 e)
      cases r stopped false e =
          let same = ap (λ (o : Outcome Machine). o.stop) (stopped (eqb-false r.stop 0 e)) in
          subst (λ (n : ℕ). n ≤ 13) same (stepped_few k seat r.after)

  -- no such seat: whatever else is wrong, and at every limit
  seat_first : (k : ℕ) (x : Machine) → 1 < k → entry_of d p k x ≡ 20
  unfolding entry_stop
  seat_first k x h = rw (lt-leb k 1 h)

  no_seat : (k : ℕ) (x : Machine) → 1 < k → stepped d p k x ≡ outcome x 0 20
  unfolding stepped decided
  no_seat k x h = rw (seat_first k x h)

  no_seat_run : (k limit : ℕ) (x : Machine) → 1 < k → ran d p k limit x ≡ outcome x 0 20
  unfolding ran
  no_seat_run k limit x h = rw (seat_first k x h)

  pub one_of_the_numbers : (x : Machine) → OneOfTheNumbers d p x
  unfolding backed
  one_of_the_numbers x = record {
    step = λ k seat. stepped_few k seat x;
    run = λ k limit seat. ran_few k seat limit x;
    no_seat = λ k. no_seat k x;
    no_seat_run = λ k limit. no_seat_run k limit x;
    back =
        back_number (last_seat x.state x.journal) x (returning p x.state (length x.memory) x.journal)
        (returning_by p x.state (length x.memory) x.journal);
  }

  pub zero_is_taken : (x : Machine) → ZeroIsTaken d p x
  unfolding stepped backed
  zero_is_taken x = record {
    counts = λ k. counts k x (verdict_of d p k x) (verdict_some k x);
    step = λ k. up k x (verdict_of d p k x) (verdict_some k x);
    back =
        down (last_seat x.state x.journal) x p (returning p x.state (length x.memory) x.journal) refl
        (returning_by p x.state (length x.memory) x.journal);
  }
