-- What a step that is taken says of the checks before it and of its effect.
use Rattle.std.proofs.Common.{◌≡◌, ℕ, ◌/◌, ◌<◌, ◌≤◌, not, ltb, List, length, sym, ◌∙◌, subst, arith, ltb-true}
use borrow.Author.Tests.{not-true}
use Rattle.hexfloat.specs.Answer.{gives}
use Rattle.orders.specs.declared.order.Operation.{Operation}
use Rattle.orders.specs.declared.order.Order.{Order}
use Rattle.protection.specs.Form.{ProtectList}
use Rattle.machine.specs.declared.state.Registers.{Registers}
use Rattle.machine.specs.declared.state.State.{State}
use Rattle.machine.specs.declared.state.Status.{Status}
use Rattle.machine.specs.declared.verdict.Effect.{Effect}
use Rattle.machine.specs.Check.{present, any_protected}
use Rattle.machine.specs.Decide.{entry_in, judged, pointer_of, decided}
use Rattle.machine.specs.Effect.{effect_of}
use Rattle.machine.specs.Machine.{Committable}
use Rattle.machine.specs.Operand.{second_operand, address_in}
use Rattle.machine.specs.Seats.{registers_of, other_of, seated}
use Rattle.orders.specs.Order.{legal_of, span_of, stored_of, is_halt, order_at}
use Rattle.hexfloat.proofs.Answers.{provided_gives, checked_gives, then_gives}
use Rattle.machine.proofs.Checks.{Held, held, entered, packable, present_fewer}
use Rattle.machine.proofs.Effects.{Fine, effect_fine}
use Rattle.machine.proofs.Rows.{Passed, legal_passed}
use Rattle.machine.proofs.Seats.{registers_seated, held_own}

-- where a step of seat k is taken, checks 20, 1 to 3 and 13 pass, its order is legal, and what that order does is the effect, which is fine
pub record Taken (d : List ℕ) (p : ProtectList) (k : ℕ) (s : State) (m : List ℕ) (journal : ℕ) (e : Effect) : Type 0 where
  pub entry : entry_in k (length d) p s (length m) journal ≡ 0
  pub seat : k ≤ 1
  pub held : Held p (registers_of k s).status (other_of k s).status s.used (length m) journal
  pub pointer : pointer_of k s < 65536
  pub room : s.used < journal / 4
  pub operation : Operation
  pub legal : legal_of (order_at d (pointer_of k s)) ≡ gives operation
  pub effect : effect_of operation (order_at d (pointer_of k s)) (registers_of k s) m (address_in (order_at d (pointer_of k s)) (registers_of k s)) ≡ gives e
  pub fine : Fine p (length m) (registers_of k s).status.selector e

module _ (p : ProtectList) (m : List ℕ) (journal : ℕ) (e : Effect) where
  -- the same of an order whose operation is known
  judged_fine :
      (g : Registers) (other : Status) (used : ℕ) (a : ℕ) (op : Operation) (o : Order) → Passed op o → Held p g.status other used (length m) journal →
      judged o g used p m a journal op ≡ gives e → (used < journal / 4) × (effect_of op o g m a ≡ gives e) × Fine p (length m) g.status.selector e
  unfolding judged effect_of
  judged_fine g other used a op o w hd h =
      let k12 = provided_gives (not (is_halt op.verb)) 12 _ h in
      let k13 = provided_gives (ltb used (journal / 4)) 13 _ k12.1 in
      let k6 = provided_gives (present (span_of op) a (length m)) 6 _ k13.1 in
      let k7 = provided_gives (not (any_protected p a (stored_of op))) 7 _ k6.1 in (
        ltb-true used (journal / 4) k13.0,
        k7.1,
        effect_fine p (length m) a op.r2 op.verb op.width o g (second_operand op.place op.width o g.float g.general g.status.selector m a) e
            (record {
              first = w.first;
              second = w.r2;
              limit = w.bit;
              there = present_fewer (stored_of op) (span_of op) a (length m) w.stored k6.0;
              free = not-true (any_protected p a (stored_of op)) k7.0;
              condition = hd.own.condition;
              mask = hd.own.mask;
              selector = hd.own.selector;
            })
            k7.1,
      )

module _ (d : List ℕ) (p : ProtectList) (k : ℕ) (s : State) (m : List ℕ) (journal : ℕ) (e : Effect) where
  pub decided_taken : decided d p k s m journal ≡ gives e → Taken d p k s m journal e
  unfolding decided
  decided_taken h =
      let g = registers_of k s in
      let at = pointer_of k s in
      let k3 = checked_gives (entry_in k (length d) p s (length m) journal) _ h in
      let k4 = provided_gives (ltb at (length d / 4)) 4 _ k3.1 in
      let q = entered p s.seat0.status s.seat1.status s.used (length m) journal k (length d) k3.0 in
      let hd = held p g.status (other_of k s).status s.used (length m) journal (sym (held_own k s p (length m) journal) ∙ q.passes) in
      let o = order_at d at in
      let below : at < length d / 4 = ltb-true at (length d / 4) k4.0 in
      let a = address_in o g in
      let t = then_gives (legal_of o) (judged o g s.used p m a journal) k4.1 in
      let r = judged_fine p m journal e g (other_of k s).status s.used a t.0 o (legal_passed o t.0 t.1) hd t.2 in
      record {
        entry = k3.0;
        seat = q.seat;
        held = hd;
        pointer = omega (arith, q.sized.size);
        room = r.0;
        operation = t.0;
        legal = t.1;
        effect = r.1;
        fine = r.2;
      }

  -- what the code that writes a step asks
  pub committable : decided d p k s m journal ≡ gives e → Committable k e (registers_of k s).status s.used (length m) journal
  committable h =
      let t = decided_taken h in
      record {
        seat = t.seat;
        register = t.fine.registers;
        there = t.fine.there;
        room = omega (arith, t.room);
        count = omega (arith, t.room, t.held.journal_size);
        status = packable t.held.own.condition t.held.own.mask t.held.own.selector;
        selector = t.fine.selector;
      }

-- of a state in parts
pub committable_seated :
    (d : List ℕ) (p : ProtectList) (k : ℕ) (g o : Registers) (used : ℕ) (m : List ℕ) (journal : ℕ) (e : Effect) →
    decided d p k (seated k g o used) m journal ≡ gives e → Committable k e g.status used (length m) journal
committable_seated d p k g o used m journal e h =
    subst (λ (r : Registers). Committable k e r.status used (length m) journal) (registers_seated k g o used) (committable d p k (seated k g o used) m journal e h)
