-- The numbers of a step's stops: 1 to 13, and so never the 0 of a step taken.
use Rattle.std.proofs.Common.{◌≡◌, ℕ, ◌+◌, ◌/◌, ◌<◌, ◌≤◌, true, false, not, eqb, ltb, List, [], ◌∷◌, length, refl, arith}
use Rattle.hexfloat.specs.declared.word.Width.{Width}
use Rattle.hexfloat.specs.declared.word.Words.{Words}
use Rattle.hexfloat.specs.Answer.{Answer, gives, mapped, provided}
use Rattle.hexfloat.specs.Convert.{to_fixed}
use Rattle.hexfloat.specs.Theorems.{Numbered}
use Rattle.hexfloat.proofs.Conditions.{stops_numbered}
use Rattle.orders.specs.declared.order.Operation.{Operation}
use Rattle.orders.specs.declared.order.Order.{Order}
use Rattle.orders.specs.declared.order.Verb.{Verb}
use Rattle.protection.specs.Form.{ProtectList}
use Rattle.machine.specs.declared.state.Registers.{Registers}
use Rattle.machine.specs.declared.state.State.{State}
use Rattle.machine.specs.declared.verdict.Effect.{Effect}
use Rattle.machine.specs.Check.{present, any_protected}
use Rattle.machine.specs.Decide.{entry_in, judged, pointer_of, decided}
use Rattle.machine.specs.Effect.{fixed_into, result_into, product_width, performed, effect_of}
use Rattle.machine.specs.Operand.{float_operand, second_operand, address_in}
use Rattle.machine.specs.Seats.{registers_of}
use Rattle.orders.specs.Order.{row_among, rows, operation_of, within_limits, legal_of, span_of, stored_of, is_halt, order_at}
use Rattle.hexfloat.proofs.Answers.{StopsBy, provided_by, checked_by, mapped_by, then_by, cond_by, numbered_by}
use Rattle.machine.proofs.Checks.{entry_number}

-- the numbers that an order's own effect stops by, for any P that holds of 8 to 11, and of 12 if the order halts
module _ (P : ℕ → Type 0) (within : (n : ℕ) → 8 ≤ n → n ≤ 11 → P n) where
  -- a result of arithmetic, put into registers
  result_by : (lo : ℕ) → 8 ≤ lo → (f : Words → Effect) {r : Answer Words} → Numbered lo 10 r → StopsBy P (mapped f r)
  result_by lo some f {r} h = mapped_by P f r (numbered_by P (λ n l u. within n (omega arith) (omega arith)) h)

  performed_by : (v : Verb) (w : Width) (o : Order) (g : Registers) (a : ℕ) (b : Words) → (is_halt v ≡ true → P 12) → StopsBy P (performed v w o g a b)
  unfolding performed
  performed_by Verb.Load w o g a b h = tt
  performed_by Verb.Complement w o g a b h = tt
  performed_by Verb.Compare w o g a b h = tt
  performed_by Verb.Fix w o g a b h =
      mapped_by P (fixed_into g.status o.r1) (to_fixed b.high) (numbered_by P (λ n l u. within n (omega arith) (omega arith)) (stops_numbered.fixed b.high))
  performed_by Verb.Float w o g a b h = tt
  performed_by Verb.Divide w o g a b h = result_by 8 (omega arith) (result_into false w g.status o.r1) (stops_numbered.quotient w (eqb g.status.mask 1) (float_operand w g.float o.r1) b)
  performed_by Verb.Store w o g a b h = tt
  performed_by Verb.LoadGeneral w o g a b h = tt
  performed_by Verb.StoreGeneral w o g a b h = tt
  performed_by Verb.SetMask w o g a b h = tt
  performed_by Verb.Jump w o g a b h = tt
  performed_by Verb.CountDown w o g a b h = tt
  performed_by Verb.Halt w o g a b h = h refl
  performed_by (Verb.Sum sense) w o g a b h = result_by 9 (omega arith) (result_into true w g.status o.r1) (stops_numbered.sum sense w (eqb g.status.mask 1) (float_operand w g.float o.r1) b)
  performed_by Verb.Multiply w o g a b h =
      result_by 9 (omega arith) (result_into false (product_width w o.r1) g.status o.r1)
      (stops_numbered.product w (product_width w o.r1) (eqb g.status.mask 1) (float_operand w g.float o.r1) b)
  performed_by Verb.Select w o g a b h = tt

  pub effect_by : (op : Operation) (o : Order) (g : Registers) (m : List ℕ) (a : ℕ) → (is_halt op.verb ≡ true → P 12) → StopsBy P (effect_of op o g m a)
  unfolding effect_of
  effect_by op o g m a h = performed_by op.verb op.width o g a (second_operand op.place op.width o g.float g.general g.status.selector m a) h

-- check 5 answers 5
module _ (P : ℕ → Type 0) (five : P 5) where
  among_by : (ops : List Operation) (k n : ℕ) → StopsBy P (row_among ops k n)
  unfolding row_among
  among_by [] k n = five
  among_by (op ∷ ops) k n = cond_by P (eqb n k) (gives op) (row_among ops (k + 1) n) tt (among_by ops (k + 1) n)

  pub legal_by : (o : Order) → StopsBy P (legal_of o)
  unfolding legal_of operation_of
  legal_by o =
      then_by P (operation_of o.code) (λ op. provided (within_limits op o) 5 (gives op)) (among_by rows 1 o.code)
      (λ op. provided_by P (within_limits op o) 5 _ five tt)

-- a step answers 1 to 13, and 20 where there is no such seat
module _ (P : ℕ → Type 0) (few : (n : ℕ) → 1 ≤ n → n ≤ 13 → P n) where
  judged_by : (o : Order) (g : Registers) (used : ℕ) (p : ProtectList) (m : List ℕ) (a journal : ℕ) (op : Operation) → StopsBy P (judged o g used p m a journal op)
  unfolding judged
  judged_by o g used p m a journal op =
      provided_by P (not (is_halt op.verb)) 12 _ (few 12 (omega arith) (omega arith))
      (provided_by P (ltb used (journal / 4)) 13 _ (few 13 (omega arith) (omega arith))
      (provided_by P (present (span_of op) a (length m)) 6 _ (few 6 (omega arith) (omega arith))
      (provided_by P (not (any_protected p a (stored_of op))) 7 _ (few 7 (omega arith) (omega arith))
      (effect_by P (λ n l u. few n (omega arith) (omega arith)) op o g m a (λ z. few 12 (omega arith) (omega arith))))))

  pub entry_by :
      (k deck : ℕ) (p : ProtectList) (s : State) (memory journal : ℕ) → (1 < k → P 20) →
      (entry_in k deck p s memory journal ≡ 0 → ⊥) → P (entry_in k deck p s memory journal)
  entry_by k deck p s memory journal seat =
      entry_number p s.seat0.status s.seat1.status s.used memory journal (λ n. (n ≡ 0 → ⊥) → P n) k deck (λ z. absurd (z refl))
      (λ h z. seat h) (λ z. few 1 (omega arith) (omega arith)) (λ z. few 2 (omega arith) (omega arith)) (λ z. few 3 (omega arith) (omega arith))

  pub decided_by :
      (d : List ℕ) (p : ProtectList) (k : ℕ) (s : State) (m : List ℕ) (journal : ℕ) → (1 < k → P 20) → StopsBy P (decided d p k s m journal)
  unfolding decided
  decided_by d p k s m journal seat =
      let g = registers_of k s in
      let o = order_at d (pointer_of k s) in
      let a = address_in o g in
      checked_by P (entry_in k (length d) p s (length m) journal) _ (entry_by k (length d) p s (length m) journal seat)
      (provided_by P (ltb (pointer_of k s) (length d / 4)) 4 _ (few 4 (omega arith) (omega arith))
      (then_by P (legal_of o) (judged o g s.used p m a journal) (legal_by P (few 5 (omega arith) (omega arith)) o) (judged_by o g s.used p m a journal)))
