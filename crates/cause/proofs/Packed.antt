-- The cause over protect lists that say the same of memory's halfwords.
use Prim.Native.Nat.{ℕ, zero, suc, ◌+◌, ◌/◌, ◌<◌, ◌≤◌}
use mathlib.Core.Path.{◌≡◌, refl, ap, ◌∙◌}
use mathlib.Core.List.{List}
use mathlib.Core.Bool.{Bool, true, false}
use lib.Dec.{eqb, ltb}
use lib.ListN.{length}
use native.Mathlib.Omega.{arith}
use borrow.Author.Tests.{eqb-true}
use Rattle.hexfloat.specs.Answer.{Answer, provided, checked}
use Rattle.orders.specs.declared.order.Order.{Order}
use Rattle.orders.specs.Order.{span_of, stored_of}
use Rattle.protection.specs.Form.{ProtectList, covers, is_protected}
use Rattle.protection.specs.Theorems.{Alike}
use Rattle.machine.specs.declared.state.Registers.{Registers}
use Rattle.machine.specs.declared.state.State.{State}
use Rattle.machine.specs.declared.verdict.Effect.{Effect}
use Rattle.machine.specs.Decide.{judged_at, pointer_of, decided}
use Rattle.machine.specs.Machine.{Machine}
use Rattle.machine.specs.Run.{entry_of}
use Rattle.machine.specs.Seats.{registers_of}
use Rattle.machine.specs.Step.{next_order, next_address, verdict_of}
use Rattle.machine.proofs.Alike.{decided_alike}
use Rattle.machine.proofs.Checks.{held, entered, entry_number, reach, present_fewer}
use Rattle.machine.proofs.Rows.{legal_passed}
use Rattle.cause.specs.Arithmetic.{stop_in}
use Rattle.cause.specs.Cause.{cause, cause_number, named_for, explained, why_of}
use Rattle.cause.specs.Storage.{lowest, lowest_protected}
use Rattle.cause.proofs.Reached.{Known, decided_known, stop_known}

-- the lowest address that a check refuses, by two checks that agree on the addresses
lowest_alike : (f g : ℕ → Bool) (n a : ℕ) → ((b : ℕ) → a ≤ b → b < a + n → f b ≡ g b) → lowest f a n ≡ lowest g a n
unfolding lowest
lowest_alike f g zero a h = refl
lowest_alike f g (suc n) a h = rw (h a (omega arith) (omega arith), lowest_alike f g n (a + 1) (λ b l u. h b (omega arith) (omega arith)))

-- a stop that the first checks do not give says that they pass
past_entry : (n stop : ℕ) (rest : Answer Effect) → (n ≡ stop → ⊥) → stop_in (checked n rest) ≡ stop → n ≡ 0
past_entry n stop rest other h = cases (eqb n 0) refl h
  where
    cases : (b : Bool) → eqb n 0 ≡ b → stop_in (provided b n rest) ≡ stop → n ≡ 0
    cases true e z = eqb-true n 0 e
    cases false e z = absurd (other z)

-- only 7 looks at the protect list
module _ (o : Order) (g : Registers) (m : List ℕ) (a : ℕ) (p q : ProtectList) where
  named_alike : (k : ℕ) → (k ≡ 7 → lowest_protected o a p ≡ lowest_protected o a q) → named_for k o g m a p ≡ named_for k o g m a q
  unfolding named_for
  named_alike k h = cases (eqb k 7) refl
    where
      cases : (b : Bool) → eqb k 7 ≡ b → named_for k o g m a p ≡ named_for k o g m a q
      cases true e = rw (h (eqb-true k 7 e))
      cases false e = rw e

module _ (d : List ℕ) (p q : ProtectList) (k : ℕ) (x : Machine) (same : Alike (length x.memory) p q) where
  abbrev s : State
  s = x.state

  abbrev o : Order
  o = next_order d k x

  abbrev g : Registers
  g = registers_of k s

  abbrev a : ℕ
  a = next_address d k x

  abbrev stop : ℕ
  stop = stop_in (verdict_of d p k x)

  -- where check 7 refuses, checks 2 and 6 have passed
  covered : stop ≡ 7 → covers p (length x.memory) ≡ true
  unfolding decided
  covered e =
      let other =
      entry_number p s.seat0.status s.seat1.status s.used (length x.memory) (length x.journal) (λ n. n ≡ 7 → ⊥) k (length d)
      (λ z. omega arith) (λ h z. omega arith) (λ z. omega arith) (λ z. omega arith) (λ z. omega arith)
      in
      let rest = provided (ltb (pointer_of k s) (length d / 4)) 4 (judged_at o g s.used p x.memory (length x.journal)) in
      let zero : entry_of d p k x ≡ 0 = past_entry (entry_of d p k x) 7 rest other e in
      (held p s.seat0.status s.seat1.status s.used (length x.memory) (length x.journal)
      (entered p s.seat0.status s.seat1.status s.used (length x.memory) (length x.journal) k (length d) zero).passes).cover

  protected_alike : stop ≡ 7 → lowest_protected o a p ≡ lowest_protected o a q
  unfolding lowest_protected
  protected_alike e =
      let known = (stop_known (Known o g p x.memory a) (verdict_of d p k x) (decided_known d p k s x.memory (length x.journal)) (omega (arith, e))).protected e in
      let op = known.0 in
      let there = present_fewer (stored_of op) (span_of op) a (length x.memory) (legal_passed o op known.1).stored known.2 in
      rw known.1
      (lowest_alike (is_protected p) (is_protected q) (stored_of op) a
      (λ b l u. same.bits_alike (covered e) b (omega (arith, reach (stored_of op) a (length x.memory) there (omega arith)))))

  pub same_cause : why_of d p k x ≡ why_of d q k x
  unfolding why_of
  same_cause =
      ap (cause (cause_number stop)) (named_alike o g x.memory a p q stop protected_alike)
      ∙ ap (λ (v : Answer Effect). explained (stop_in v) o g x.memory a q) (decided_alike d p q k s x.memory (length x.journal) same)
