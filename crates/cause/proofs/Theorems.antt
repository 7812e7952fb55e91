-- What is named is a true cause.
use Prim.Native.Nat.{ℕ, ◌<◌, ◌≤◌}
use mathlib.Core.Path.{◌≡◌, refl, sym, ap, ◌∙◌}
use mathlib.Core.List.{List}
use mathlib.Core.Bool.{true, false}
use lib.ListN.{length}
use native.Mathlib.Omega.{arith}
use borrow.Author.Tests.{ltb-true, lt-leb}
use Rattle.hexfloat.specs.Answer.{gives, stops}
use Rattle.orders.specs.declared.order.Operation.{Operation}
use Rattle.orders.specs.declared.order.Order.{Order}
use Rattle.orders.specs.Order.{legal_of, span_of, stored_of}
use Rattle.protection.specs.Form.{ProtectList, is_protected}
use Rattle.machine.specs.declared.state.Registers.{Registers}
use Rattle.machine.specs.Check.{present, any_protected}
use Rattle.machine.specs.Decide.{entry_stop, decided}
use Rattle.machine.specs.Fetch.{operands_read}
use Rattle.machine.specs.Machine.{Machine}
use Rattle.machine.specs.Effect.{effect_of}
use Rattle.machine.specs.Seats.{registers_of}
use Rattle.machine.specs.Step.{next_order, next_address, verdict_of}
use Rattle.machine.proofs.Refusals.{decided_by}
use Rattle.cause.specs.declared.naming.Named.{Named}
use Rattle.cause.specs.Arithmetic.{stop_in, stop_by}
use Rattle.cause.specs.Cause.{values_of, cause_number, named_for, why_of}
use Rattle.cause.specs.Cell.{first_cell, breaks}
use Rattle.cause.specs.Storage.{is_absent, lowest_absent, lowest_protected}
use Rattle.cause.specs.Theorems.{NamesCell, NamesAddress, TrueCause, words_in, Theorems}
use Rattle.cause.specs.Words.{words_read}
use Rattle.cause.proofs.Arithmetic.{effect_stop, same_stop}
use Rattle.cause.proofs.Attempted.{step_number}
use Rattle.cause.proofs.Cells.{first_broken}
use Rattle.cause.proofs.Lowest.{past_end, lowest_is, any_lowest, absent_found}
use Rattle.cause.proofs.Numbers.{number_same, number_is, number_listed, named_words, named_none}
use Rattle.cause.proofs.Packed.{same_cause}
use Rattle.cause.proofs.Reached.{stop_known, Known, decided_known}
use Rattle.cause.proofs.Unindexed.{unindexed}

module _ (o : Order) (g : Registers) (p : ProtectList) (m : List ℕ) (a : ℕ) where
  abbrev named : ℕ → Named
  named k = named_for k o g m a p

  cell_named : (k : ℕ) → k ≡ 5 → legal_of o ≡ stops 5 → NamesCell o (named k)
  unfolding named_for
  cell_named k e h = record { cell = first_cell (breaks o); named = rw (e); first = first_broken o 5 h }

  module _ (op : Operation) (legal : legal_of o ≡ gives op) where
    absent_named : (k : ℕ) → k ≡ 6 → present (span_of op) a (length m) ≡ false → NamesAddress (is_absent (length m)) span_of o a (named k)
    unfolding named_for lowest_absent
    absent_named k e h =
        let z = past_end (span_of op) a (length m) h in
        record {
          operation = op;
          legal = legal;
          address = lowest_absent o a (length m);
          named = rw (e);
          lowest = rw (legal) (lowest_is (is_absent (length m)) a (span_of op) (absent_found (length m) a (span_of op) z.0 z.1));
        }

    protected_named : (k : ℕ) → k ≡ 7 → any_protected p a (stored_of op) ≡ true → NamesAddress (is_protected p) stored_of o a (named k)
    unfolding named_for lowest_protected
    protected_named k e h =
        record {
          operation = op;
          legal = legal;
          address = lowest_protected o a p;
          named = rw (e);
          lowest = rw (legal) (lowest_is (is_protected p) a (stored_of op) (ltb-true _ _ (sym (any_lowest p a (stored_of op)) ∙ h)));
        }

    -- the words of a legal order whose S is there
    words_are : present (span_of op) a (length m) ≡ true → values_of (words_read (operands_read o g.float g.general g.status.selector m a)) ≡ words_in op o g m a
    unfolding words_read operands_read
    words_are there = rw (legal, there)

    words_stop :
        (k : ℕ) → 8 ≤ k → k ≤ 11 → present (span_of op) a (length m) ≡ true → effect_of op o g m a ≡ stops k →
        stop_by o g.status.mask (values_of (named k)) ≡ k
    words_stop k l u there h =
        ap (λ (n : Named). stop_by o g.status.mask (values_of n)) (named_words k o g m a p l u)
        ∙ ap (stop_by o g.status.mask) (words_are there)
        ∙ sym (effect_stop op o legal g m a)
        ∙ ap stop_in h

module _ (d : List ℕ) (p : ProtectList) (k : ℕ) (x : Machine) where
  abbrev stop : ℕ
  stop = stop_in (verdict_of d p k x)

  -- the step of a seat that there is stops by none above 13, and that of another by 20
  seat_there : k ≤ 1 → stop ≡ 20 → ⊥
  seat_there there e =
      let few =
      stop_known (λ n. n ≤ 13) (verdict_of d p k x)
      (decided_by (λ n. n ≤ 13) (λ n l u. u) d p k x.state x.memory (length x.journal) (λ h. omega arith)) (omega (arith, e))
      in
      omega (arith, e, few)

  seat_absent : 1 < k → cause_number stop ≡ 20
  unfolding decided entry_stop cause_number
  seat_absent above = rw (lt-leb k 1 above)

  true_cause : TrueCause d p k x (why_of d p k x)
  unfolding why_of
  true_cause =
      let g = registers_of k x.state in
      let o = next_order d k x in
      let m = x.memory in
      let a = next_address d k x in
      let known = stop_known (Known o g p m a) (verdict_of d p k x) (decided_known d p k x.state m (length x.journal)) in
      record {
        number = ap cause_number (sym (step_number d p k x));
        listed = λ there. number_listed stop (seat_there there);
        seat = seat_absent;
        nothing = λ h. named_none stop o g m a p (λ l u. let same = number_same stop (omega arith) u in h (omega (arith, same)) (omega (arith, same)));
        cell = λ h. let q = number_is stop 5 h (omega arith) in cell_named o g p m a stop q.0 ((known q.1).illegal q.0);
        absent = λ h.
            let q = number_is stop 6 h (omega arith) in
            let z = (known q.1).absent q.0 in
            absent_named o g p m a z.0 z.1 stop q.0 z.2;
        protected = λ h.
            let q = number_is stop 7 h (omega arith) in
            let z = (known q.1).protected q.0 in
            protected_named o g p m a z.0 z.1 stop q.0 z.3;
        words = λ l u.
            let q = number_is stop (cause_number stop) refl u in
            let low : 8 ≤ stop = omega (arith, q.0) in
            let high : stop ≤ 11 = omega (arith, q.0) in
            let z = (known q.1).arithmetic low high in
            words_stop o g p m a z.0 z.1 stop low high z.2 z.3 ∙ q.0;
      }

pub theorems : Theorems
theorems = record { true_cause = true_cause; same_stop = same_stop; same_cause = same_cause; unindexed = unindexed }
