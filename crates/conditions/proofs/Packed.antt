-- Calls over protect lists that say the same of memory's halfwords; packed lists and those that they stand for.
use Prim.Native.Nat.{ℕ}
use mathlib.Core.Path.{◌≡◌, refl, sym, ap, subst, ◌∙◌}
use mathlib.Core.List.{List}
use mathlib.Core.Bool.{true, false}
use lib.Dec.{eqb}
use lib.ListN.{length}
use native.Mathlib.Omega.{arith}
use borrow.Author.Tests.{ne_eqb}
use Rattle.protection.specs.Form.{ProtectList, covers}
use Rattle.protection.specs.Bits.{bit_form, bitwise}
use Rattle.protection.specs.Bytes.{byte_form, bytewise}
use Rattle.protection.specs.Theorems.{Alike}
use Rattle.machine.specs.declared.verdict.Effect.{Effect}
use Rattle.machine.specs.Back.{backed}
use Rattle.machine.specs.Machine.{Machine, committed}
use Rattle.machine.specs.Run.{ran}
use Rattle.machine.specs.Step.{outcome, verdict_of, stepped}
use Rattle.protection.proofs.Unpacked.{stands_for}
use Rattle.machine.proofs.Alike.{entry_alike, decided_alike, returning_alike}
use Rattle.conditions.specs.Trail.{Call, step, run, back, called}
use Rattle.conditions.specs.Theorems.{SameOver, AsBefore}
use Rattle.conditions.proofs.Keeps.{call_keeps}
use Rattle.conditions.proofs.Restore.{memory_length}
use Rattle.conditions.proofs.Same.{onward-same, repeated_same, same_calls}

module _ (d : List ℕ) (p q : ProtectList) where
  abbrev Over : Machine → Type 0
  Over x = Alike (length x.memory) p q

  -- memory's length at every step is that at the start
  next_alike : (c : Call) (x : Machine) → Over x → Over (called d p c x).after
  next_alike c x h = subst (λ (n : ℕ). Alike n p q) (sym (call_keeps p length (λ ch m free. memory_length ch m) d c x)) h

  verdict_alike : (k : ℕ) (x : Machine) → Over x → verdict_of d p k x ≡ verdict_of d q k x
  verdict_alike k x h = decided_alike d p q k x.state x.memory (length x.journal) h

  committed_alike : (k : ℕ) (e : Effect) (x : Machine) → Over x → Over (committed k e x)
  committed_alike k e x h = subst (λ (n : ℕ). Alike n p q) (sym (memory_length e.change x.memory)) h

  call_alike : (c : Call) (x : Machine) → Over x → called d p c x ≡ called d q c x
  unfolding called stepped ran backed
  call_alike (step k) x h = onward-same k Over (verdict_of d p k) (verdict_of d q k) (verdict_alike k) (committed_alike k) x h (λ y. outcome y 0 0) (λ y. outcome y 0 0) (λ y g. refl)
  call_alike (run k n) x h =
      rw (
        entry_alike p q (length x.memory) h k (length d) x.state.seat0.status x.state.seat1.status x.state.used (length x.journal),
        repeated_same k Over (verdict_of d p k) (verdict_of d q k) (verdict_alike k) (committed_alike k) n x h,
      )
  call_alike back x h = rw (returning_alike p q (length x.memory) h x.state x.journal)

  pub same_over : (x : Machine) → Over x → SameOver d p q x
  same_over x h = same_calls Over (called d p) (called d q) call_alike next_alike x h

-- lists of which neither has the length for n halfwords
neither : (n : ℕ) (p q : ProtectList) → covers p n ≡ false → covers q n ≡ false → Alike n p q
neither n p q h k = record { length_alike = h ∙ sym k; bits_alike = λ t. absurd (let z : true ≡ false = sym t ∙ h in let y : ◌≡◌ {A = ℕ} 0 1 = cc in omega arith) }

pub as_before : (d p : List ℕ) (x : Machine) → AsBefore d p x
unfolding covers
as_before d p x =
    let n = length x.memory in
    record {
      packed = λ h. same_over d (bitwise p) _ x (stands_for n p h);
      other_length = λ q h k. same_over d (bitwise p) (bytewise q) x (neither n (bitwise p) (bytewise q) (ne_eqb (length p) (bit_form.cover_of n) h) (ne_eqb (length q) (byte_form.cover_of n) k));
      past_the_end = λ q e h. same_over d (bitwise p) (bitwise q) x (record { length_alike = ap (λ (k : ℕ). eqb k (bit_form.cover_of n)) e; bits_alike = λ t. h });
    }
