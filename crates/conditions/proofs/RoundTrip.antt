-- CVFL and then CVFX of the float register that it wrote: no stop by 6 to 11, and `homed` of the word that it was given.
use Prim.Native.Nat.{ℕ, ◌+◌, ◌/◌, ◌≤◌}
use mathlib.Core.Path.{◌≡◌, refl, sym, ap, subst, ◌∙◌}
use mathlib.Core.List.{List}
use mathlib.Core.Bool.{Bool, true, false, not}
use lib.Dec.{eqb, ltb}
use lib.ListN.{length}
use lib.Seq.{get_or-set_same}
use native.Mathlib.Omega.{arith}
use borrow.Author.Tests.{eqb-true, eqb-false}
use Rattle.hexfloat.specs.declared.word.Width.{Width}
use Rattle.hexfloat.specs.Answer.{Answer, gives, stops, mapped, provided, and_then}
use Rattle.hexfloat.specs.Convert.{fixed_coded, to_fixed, to_float}
use Rattle.hexfloat.specs.RoundTrip.{homed}
use Rattle.hexfloat.proofs.Answers.{gives_inj, StopsBy, provided_by, checked_by}
use Rattle.hexfloat.proofs.RoundTrip.{round_trip as word-trip}
use Rattle.orders.specs.declared.order.Operation.{Operation}
use Rattle.orders.specs.declared.order.Order.{Order}
use Rattle.orders.specs.declared.order.Verb.{Verb}
use Rattle.orders.specs.General.{general_cell, general_at}
use Rattle.orders.specs.Order.{on_float, on_general, row_among, operation_of, within_limits, legal_of, span_of, stored_of, is_halt, order_at}
use Rattle.orders.proofs.Generals.{register_there}
use Rattle.orders.proofs.Passing.{legal-row}
use Rattle.protection.specs.Form.{ProtectList}
use Rattle.machine.specs.declared.state.Registers.{Registers}
use Rattle.machine.specs.declared.verdict.Effect.{Effect}
use Rattle.machine.specs.Change.{float_after, general_after}
use Rattle.machine.specs.Check.{present, any_protected}
use Rattle.machine.specs.Decide.{judged, pointer_of, decided}
use Rattle.machine.specs.Effect.{fixed_into, floated_into, performed, effect_of}
use Rattle.machine.specs.Machine.{Machine, committed}
use Rattle.machine.specs.Operand.{float_at, float_operand, second_operand, address_in}
use Rattle.machine.specs.Run.{entry_of}
use Rattle.machine.specs.Seats.{registers_of}
use Rattle.machine.specs.Step.{Outcome, outcome, onward, next_order, next_address, verdict_of, stepped}
use Rattle.machine.proofs.Checks.{entry_number}
use Rattle.machine.proofs.Decided.{decided_taken}
use Rattle.machine.proofs.Effects.{Fine}
use Rattle.machine.proofs.Placed.{registered_float, registered_general}
use Rattle.machine.proofs.Refusals.{decided_by}
use Rattle.conditions.specs.Trail.{called, standing}
use Rattle.conditions.specs.Theorems.{TypedRegisters, general_of, cvfx, cvfl, Not6To11, RoundTrip}
use Rattle.conditions.proofs.Decisions.{registers_after_lem}
use Rattle.conditions.proofs.Leaves.{leaves_all}

module _ (d : List ℕ) (p : ProtectList) (k : ℕ) where
  -- the order at the pointer, with what it needs of storage there and free, has the effect e
  record Performs (x : Machine) (e : Effect) : Type 0 where
    operation : Operation
    row : operation_of (next_order d k x).code ≡ gives operation
    there : present (span_of operation) (next_address d k x) (length x.memory) ≡ true
    free : any_protected p (next_address d k x) (stored_of operation) ≡ false
    effect : effect_of operation (next_order d k x) (registers_of k x.state) x.memory (next_address d k x) ≡ gives e

  -- a step that was taken with the effect e, which is fine
  record TakenAs (x : Machine) (e : Effect) : Type 0 where
    after : (stepped d p k x).after ≡ committed k e x
    fine : Fine p (length x.memory) (registers_of k x.state).status.selector e

  module _ (x : Machine) (e : Effect) (s : Performs x e) where
    -- so what may stop it are checks 1 to 5, 12 and 13
    verdict_by : StopsBy Not6To11 (verdict_of d p k x)
    unfolding decided legal_of judged
    verdict_by =
        checked_by Not6To11 (entry_of d p k x) _
        (λ z. entry_number p x.state.seat0.status x.state.seat1.status x.state.used (length x.memory) (length x.journal) Not6To11 k (length d)
        (λ l u. omega arith) (λ h l u. omega arith) (λ l u. omega arith) (λ l u. omega arith) (λ l u. omega arith))
        (provided_by Not6To11 (ltb (pointer_of k x.state) (length d / 4)) 4 _ (λ l u. omega arith)
        (rw s.row (limits (within_limits s.operation (next_order d k x)))))
      where
        after : Operation → Answer Effect
        after = judged (next_order d k x) (registers_of k x.state) x.state.used p x.memory (next_address d k x) (length x.journal)

        limits : (b : Bool) → StopsBy Not6To11 (and_then (provided b 5 (gives s.operation)) after)
        limits false = λ l u. omega arith
        limits true =
            provided_by Not6To11 (not (is_halt s.operation.verb)) 12 _ (λ l u. omega arith)
            (provided_by Not6To11 (ltb x.state.used (length x.journal / 4)) 13 _ (λ l u. omega arith)
            (rw (s.there, s.free, s.effect) tt))

    -- what a step does by its verdict
    abbrev after : Answer Effect → Outcome Machine
    after v = onward v x (λ e. committed k e x) (λ y. outcome y 0 0)

    step_by : Not6To11 (stepped d p k x).stop
    unfolding stepped
    step_by = cases (verdict_of d p k x) verdict_by
      where
        cases : (v : Answer Effect) → StopsBy Not6To11 v → Not6To11 (after v).stop
        cases (stops n) h = h
        cases (gives c) h = λ l u. omega arith

    -- a step that is taken has this effect
    is_effect : (c : Effect) → verdict_of d p k x ≡ gives c → c ≡ e
    is_effect c h =
        let t = decided_taken d p k x.state x.memory (length x.journal) c h in
        let same : s.operation ≡ t.operation = gives_inj (sym s.row ∙ (legal-row (next_order d k x) t.operation t.legal).0) in
        gives_inj (sym t.effect ∙ subst (λ (y : Operation). effect_of y (next_order d k x) (registers_of k x.state) x.memory (next_address d k x) ≡ gives e) same s.effect)

    step_taken : (stepped d p k x).stop ≡ 0 → TakenAs x e
    unfolding stepped
    step_taken h = cases (verdict_of d p k x) (decided_by (λ n. 1 ≤ n) (λ n l u. l) d p k x.state x.memory (length x.journal) (λ h. omega arith)) refl h
      where
        given : (c : Effect) → verdict_of d p k x ≡ gives c → TakenAs x e
        given c t = record {
          after = rw t (ap (λ (y : Effect). committed k y x) (is_effect c t));
          fine =
              subst (Fine p (length x.memory) (registers_of k x.state).status.selector) (is_effect c t)
              (decided_taken d p k x.state x.memory (length x.journal) c t).fine;
        }

        cases : (v : Answer Effect) → StopsBy (λ n. 1 ≤ n) v → verdict_of d p k x ≡ v → (after v).stop ≡ 0 → TakenAs x e
        cases (stops stop) n t z = absurd (omega (arith, n))
        cases (gives c) n t z = given c t

  -- CVFL r1 r2 at the pointer of x
  floats : (x : Machine) (r1 r2 : ℕ) → next_order d k x ≡ cvfl r1 r2 → Performs x (floated_into (registers_of k x.state).status r1 (to_float (general_of k x r2)))
  unfolding operation_of row_among present any_protected effect_of performed second_operand
  floats x r1 r2 order = record {
    operation = on_general Verb.Float Width.Short;
    row = ap (λ (o : Order). operation_of o.code) order;
    there = refl;
    free = refl;
    effect = ap (λ (o : Order). effect_of (on_general Verb.Float Width.Short) o (registers_of k x.state) x.memory (address_in o (registers_of k x.state))) order;
  }

  -- CVFX g r1 at the pointer of y, where R r1 is what CVFL gives for w
  fixes :
      (y : Machine) (g r1 w : ℕ) → next_order d k y ≡ cvfx g r1 → float_at (registers_of k y.state).float r1 ≡ (to_float w).word →
      Performs y (fixed_into (registers_of k y.state).status g (fixed_coded (homed w)))
  unfolding operation_of row_among present any_protected effect_of performed second_operand float_operand
  fixes y g r1 w order float = record {
    operation = on_float Verb.Fix Width.Short;
    row = ap (λ (o : Order). operation_of o.code) order;
    there = refl;
    free = refl;
    effect =
        ap (λ (o : Order). effect_of (on_float Verb.Fix Width.Short) o (registers_of k y.state) y.memory (address_in o (registers_of k y.state))) order
        ∙ ap (mapped (fixed_into (registers_of k y.state).status g)) (ap to_fixed float ∙ (word-trip w).returns);
  }

  -- both, from x on
  module _ (x : Machine) (r1 r2 g : ℕ) (typed : TypedRegisters (registers_of k x.state)) (first : next_order d k x ≡ cvfl r1 r2) (second : order_at d (pointer_of k x.state + 1) ≡ cvfx g r1) where
    abbrev word : ℕ
    word = general_of k x r2

    -- the effects of both steps, and what stands after each
    abbrev floating : Effect
    floating = floated_into (registers_of k x.state).status r1 (to_float word)

    abbrev floated : Machine
    floated = committed k floating x

    abbrev fixing : Effect
    fixing = fixed_into (registers_of k floated.state).status g (fixed_coded (homed word))

    abbrev fixed : Machine
    fixed = committed k fixing floated

    -- the first step taken: R r1 is there, and holds what CVFL gives, so CVFX has its effect
    module _ (t : (stepped d p k x).stop ≡ 0) where
      first_taken : TakenAs x floating
      first_taken = step_taken x floating (floats x r1 r2 first) t

      second_performs : Performs floated fixing
      unfolding float_after
      second_performs =
          let few : r1 ≤ 7 = registered_float refl first_taken.fine.registers in
          let own = registers_after_lem k floating x in
          fixes floated g r1 word (ap (λ (r : Registers). order_at d r.status.pointer) own ∙ second)
          (ap (λ (r : Registers). float_at r.float r1) own ∙ get_or-set_same (registers_of k x.state).float r1 (to_float word).word 0 (omega (arith, typed.float)))

      -- both taken: G g is there
      module _ (u : (stepped d p k (stepped d p k x).after).stop ≡ 0) where
        second_taken : TakenAs floated fixing
        second_taken = step_taken floated fixing second_performs (subst (λ (y : Machine). (stepped d p k y).stop ≡ 0) first_taken.after u)

        both_taken : (stepped d p k (stepped d p k x).after).after ≡ fixed
        both_taken = ap (λ (y : Machine). (stepped d p k y).after) first_taken.after ∙ second_taken.after

        returned : general_of k fixed g ≡ homed word
        unfolding general_after
        returned =
            let h = registers_of k floated.state in
            let s = h.status.selector in
            let set : s ≤ 1 = second_taken.fine.selector in
            let few : g ≤ 7 = registered_general refl second_taken.fine.registers in
            let there : length h.general ≡ 16 = ap (λ (r : Registers). length r.general) (registers_after_lem k floating x) ∙ typed.general in
            ap (λ (r : Registers). general_at r.general r.status.selector g) (registers_after_lem k fixing floated)
            ∙ register_there _ s g set few
            ∙ get_or-set_same h.general (general_cell s g) (homed word) 0 (omega (arith, there))

    -- a first step that is not taken leaves all, and is tried again
    second_by : (b : Bool) → eqb (stepped d p k x).stop 0 ≡ b → Not6To11 (stepped d p k (stepped d p k x).after).stop
    second_by true e =
        let t = eqb-true (stepped d p k x).stop 0 e in
        subst (λ (y : Machine). Not6To11 (stepped d p k y).stop) (sym (first_taken t).after) (step_by floated fixing (second_performs t))
    second_by false e =
        subst (λ (y : Machine). Not6To11 (stepped d p k y).stop) (sym ((leaves_all d p x).step k (eqb-false (stepped d p k x).stop 0 e))) (step_by x floating (floats x r1 r2 first))

    pub round_trip : RoundTrip d p k x r2 g
    unfolding standing called
    round_trip = record {
      first = step_by x floating (floats x r1 r2 first);
      second = second_by (eqb (stepped d p k x).stop 0) refl;
      returns = λ t u. ap (λ (y : Machine). general_of k y g) (both_taken t u) ∙ returned t u;
      condition = λ t u.
          ap (λ (y : Machine). (registers_of k y.state).status.condition) (both_taken t u)
          ∙ ap (λ (r : Registers). r.status.condition) (registers_after_lem k fixing floated);
    }
