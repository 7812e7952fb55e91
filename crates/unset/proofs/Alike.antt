-- A step of each of two machines that are alike leaves them alike, where no order reads a register unset: a register in which they may differ is one that some
-- path from the start to where they stand does not write.
use Prim.Native.Nat.{ℕ, ◌*◌, ◌/◌, ◌%◌, ◌<◌, ◌≤◌}
use mathlib.Core.Path.{◌≡◌, refl, sym, subst, ◌∙◌}
use mathlib.Core.List.{List, Memᴰ}
use mathlib.Core.Logic.{◌⊎◌, inl, inr, ⊎_elim}
use mathlib.Core.Bool.{Bool, true, false}
use lib.Dec.{eqb, leb, ltb}
use lib.ListN.{length, length-set, get_or-eq_default}
use native.Mathlib.Omega.{arith}
use borrow.Author.Tests.{eqb-true, ltb-true, ltb-false}
use Rattle.hexfloat.specs.Answer.{Answer, gives}
use Rattle.hexfloat.proofs.Answers.{gives_inj, never, both}
use Rattle.orders.specs.declared.order.Operation.{Operation}
use Rattle.orders.specs.Order.{row_among, operation_of, legal_of, order_at}
use Rattle.orders.proofs.Passing.{legal-row}
use Rattle.protection.specs.Form.{ProtectList}
use Rattle.machine.specs.declared.change.Change.{Change}
use Rattle.machine.specs.declared.state.Registers.{Registers}
use Rattle.machine.specs.declared.state.Status.{Status}
use Rattle.machine.specs.declared.verdict.Effect.{Effect}
use Rattle.machine.specs.Change.{float_after, general_after, registers_after}
use Rattle.machine.specs.Check.{deck_sized}
use Rattle.machine.specs.Decide.{pointer_of}
use Rattle.machine.specs.Journal.{encoded}
use Rattle.machine.specs.Machine.{Machine, before_of, committed}
use Rattle.machine.specs.Seats.{registers_of, other_of}
use Rattle.machine.specs.Step.{Outcome, outcome, onward, next_order, verdict_of, stepped}
use Rattle.machine.specs.Uses.{Register, contents, written_by}
use Rattle.machine.proofs.Decided.{decided_taken}
use Rattle.conditions.specs.Theorems.{TypedRegisters, NextReads, NextWrites, AlikeRead, AlikeAfter}
use Rattle.conditions.proofs.Decisions.{registers_after_lem}
use Rattle.conditions.proofs.Records.{written-length}
use Rattle.conditions.proofs.Unread.{unread_free}
use Rattle.conditions.proofs.Written.{unwritten_kept}
use Rattle.unset.specs.Answer.{ReadUnset}
use Rattle.unset.specs.Path.{Writes, goes, ReachedUnwritten}
use Rattle.unset.specs.Theorems.{point_of}
use Rattle.unset.proofs.Along.{taken_leads}
use Rattle.unset.proofs.Among.{Decision, among}

-- ---- what a step leaves of lengths
float_length : (ch : Change) (f : List ℕ) → length (float_after ch f) ≡ length f
unfolding float_after
float_length Change.Nothing f = refl
float_length (Change.Float r w) f = simp length-set
float_length (Change.Pair r x y) f = simp length-set
float_length (Change.General r w) f = refl
float_length (Change.Two a w) f = refl
float_length (Change.Four a x y) f = refl

general_length : (ch : Change) (n : List ℕ) (s : ℕ) → length (general_after ch n s) ≡ length n
unfolding general_after
general_length Change.Nothing n s = refl
general_length (Change.Float r w) n s = refl
general_length (Change.Pair r x y) n s = refl
general_length (Change.General r w) n s = simp length-set
general_length (Change.Two a w) n s = refl
general_length (Change.Four a x y) n s = refl

typed_after : (e : Effect) (g : Registers) → TypedRegisters g → TypedRegisters (registers_after e g)
typed_after e g t = record {
  float = float_length e.change g.float ∙ t.float;
  general = general_length e.change g.general e.status.selector ∙ t.general;
}

journal_after : (seat : ℕ) (e : Effect) (u : Machine) → length (committed seat e u).journal ≡ length u.journal
journal_after seat e u = written-length u.journal u.state.used (encoded seat (before_of (registers_of seat u.state) u.memory e))

-- ---- no order past the end of a deck is legal: its code is 0
no_code : (op : Operation) → operation_of 0 ≡ gives op → ⊥
unfolding operation_of row_among
no_code op h = never h

whole : (n : ℕ) → deck_sized n ≡ true → n % 4 ≡ 0
unfolding deck_sized
whole n h = eqb-true (n % 4) 0 (both (eqb (n % 4) 0) (leb n 16384) h).0

legal_inside : (d : List ℕ) (q : ℕ) (op : Operation) → deck_sized (length d) ≡ true → legal_of (order_at d q) ≡ gives op → q < length d / 4
legal_inside d q op sized h = cases (ltb q (length d / 4)) refl
  where
    cases : (b : Bool) → ltb q (length d / 4) ≡ b → q < length d / 4
    cases true e = ltb-true q (length d / 4) e
    cases false e =
        let past : length d ≤ q * 4 = omega (arith, ltb-false q (length d / 4) e, whole (length d) sized) in
        let code = get_or-eq_default d 0 past in
        absurd (no_code op (rw code at (legal-row (order_at d q) op h).0))

-- ---- two machines, u and v, after as many steps from x and y

-- a register holds the same in both, or in each what it held at the start, and then some path to here does not write it
abbrev pub Agrees : List ℕ → ℕ → Machine → Machine → Machine → Machine → Register → Type 0
Agrees d seat x y u v r =
    (contents (registers_of seat u.state) r ≡ contents (registers_of seat v.state) r)
    ⊎ (ReachedUnwritten d r (point_of seat u)
    × ((contents (registers_of seat u.state) r ≡ contents (registers_of seat x.state) r) × (contents (registers_of seat v.state) r ≡ contents (registers_of seat y.state) r)))

pub record Alike (d : List ℕ) (seat : ℕ) (x y u v : Machine) : Type 0 where
  pub typed : TypedRegisters (registers_of seat u.state)
  pub typed_too : TypedRegisters (registers_of seat v.state)
  pub status : (registers_of seat u.state).status ≡ (registers_of seat v.state).status
  pub beside : (other_of seat u.state).status ≡ (other_of seat v.state).status
  pub used : u.state.used ≡ v.state.used
  pub memory : u.memory ≡ v.memory
  pub room : length u.journal ≡ length v.journal
  pub registers : (r : Register) → Agrees d seat x y u v r

-- no order reads a register that some path reaches it without having written
abbrev pub NoneUnset : List ℕ → Type 0
NoneUnset d = (q : ℕ) (r : Register) → ReadUnset d q r → ⊥

module _ (d : List ℕ) (p : ProtectList) (seat : ℕ) (x y : Machine) (sized : deck_sized (length d) ≡ true) (clear : NoneUnset d) where
  -- the register that the next order reads holds the same: else the order would read it unset
  alike_read : (u v : Machine) → Alike d seat x y u v → AlikeRead d seat u v
  alike_read u v k = record {
    typed = k.typed;
    typed_too = k.typed_too;
    status = k.status;
    beside = k.beside;
    used = k.used;
    memory = k.memory;
    room = k.room;
    read = λ r n. ⊎_elim (λ e. e) (λ w. absurd (clear (pointer_of seat u.state) r (unset r n w.0))) (k.registers r);
  }
    where
      unset : (r : Register) → NextReads d seat u r → ReachedUnwritten d r (point_of seat u) → ReadUnset d (pointer_of seat u.state) r
      unset r n w = record {
        selector = (registers_of seat u.state).status.selector;
        reads = record {
          here = record {
            operation = n.operation;
            inside = legal_inside d (pointer_of seat u.state) n.operation sized n.legal;
            legal = n.legal;
          };
          reads = n.reads;
        };
        reached = w;
      }

  -- a step of each, by its verdict
  abbrev pub after : Answer Effect → Machine → Outcome Machine
  after a u = onward a u (λ e. committed seat e u) (λ t. outcome t 0 0)

  -- they come out alike
  pub step_alike :
      (u v : Machine) (a b : Answer Effect) → Alike d seat x y u v → verdict_of d p seat u ≡ a → verdict_of d p seat v ≡ b → AlikeAfter d seat u (after a u) (after b v)
  unfolding stepped
  step_alike u v a b k s t = rw (← s, ← t) (unread_free d p seat u v (alike_read u v k))

  -- a step that is taken keeps a register that the order does not write
  step_kept :
      (u : Machine) (e : Effect) (r : Register) → verdict_of d p seat u ≡ gives e → (NextWrites d seat u r → ⊥) →
      contents (registers_of seat (committed seat e u).state) r ≡ contents (registers_of seat u.state) r
  unfolding stepped
  step_kept u e r s n = rw s at (unwritten_kept d p seat u r n)

  -- it writes a register or not
  writes : (u : Machine) (e : Effect) (r : Register) → verdict_of d p seat u ≡ gives e → Decision (NextWrites d seat u r)
  writes u e r s =
      let t = decided_taken d p seat u.state u.memory (length u.journal) e s in
      cases t.operation t.legal (among r (written_by t.operation (next_order d seat u) (registers_of seat u.state).status.selector))
    where
      cases :
          (op : Operation) → legal_of (next_order d seat u) ≡ gives op →
          Decision (Memᴰ r (written_by op (next_order d seat u) (registers_of seat u.state).status.selector)) → Decision (NextWrites d seat u r)
      cases op legal (inl m) = inl (record { operation = op; legal = legal; writes = m })
      cases op legal (inr n) = inr (λ w. n (rw (gives_inj (sym w.legal ∙ legal)) at w.writes))

  -- and both machines write the same ones
  writes_too : (u v : Machine) (r : Register) → Alike d seat x y u v → NextWrites d seat v r → NextWrites d seat u r
  writes_too u v r k w = record {
    operation = w.operation;
    legal = subst (λ (s : Status). legal_of (order_at d s.pointer) ≡ gives w.operation) (sym k.status) w.legal;
    writes = subst (λ (s : Status). Memᴰ r (written_by w.operation (order_at d s.pointer) s.selector)) (sym k.status) w.writes;
  }

  -- a path to where they stand goes on by the step, and still does not write the register
  reached_on :
      (u : Machine) (e : Effect) (r : Register) → verdict_of d p seat u ≡ gives e → (NextWrites d seat u r → ⊥) → ReachedUnwritten d r (point_of seat u) →
      ReachedUnwritten d r (point_of seat (committed seat e u))
  reached_on u e r s n w = record {
    path = goes w.path (taken_leads d p seat u e s);
    unwritten = (w.unwritten, λ (q : Writes d (point_of seat u) r). n (record { operation = q.here.operation; legal = q.here.legal; writes = q.writes }));
  }

  -- so both stay alike
  pub alike_on :
      (u v : Machine) (e f : Effect) → Alike d seat x y u v → verdict_of d p seat u ≡ gives e → verdict_of d p seat v ≡ gives f →
      Alike d seat x y (committed seat e u) (committed seat f v)
  alike_on u v e f k s t =
      let q = step_alike u v (gives e) (gives f) k s t in
      record {
        typed = subst TypedRegisters (sym (registers_after_lem seat e u)) (typed_after e (registers_of seat u.state) k.typed);
        typed_too = subst TypedRegisters (sym (registers_after_lem seat f v)) (typed_after f (registers_of seat v.state) k.typed_too);
        status = q.status;
        beside = q.beside;
        used = q.used;
        memory = q.memory;
        room = journal_after seat e u ∙ k.room ∙ sym (journal_after seat f v);
        registers = λ r. ⊎_elim (λ w. inl (q.written refl r w)) (λ n. unwritten r n (k.registers r)) (writes u e r s);
      }
    where
      unwritten : (r : Register) → (NextWrites d seat u r → ⊥) → Agrees d seat x y u v r → Agrees d seat x y (committed seat e u) (committed seat f v) r
      unwritten r n c =
          let one = step_kept u e r s n in
          let two = step_kept v f r t (λ w. n (writes_too u v r k w)) in
          ⊎_elim (λ h. inl (one ∙ h ∙ sym two)) (λ w. inr (reached_on u e r s n w.0, (one ∙ w.1.0, two ∙ w.1.1))) c
