-- What the number of a step's stop says of the checks before it.
use Prim.Native.Nat.{ℕ, ◌/◌, ◌≤◌}
use mathlib.Core.Path.{◌≡◌, refl, sym, ap, subst, ◌∙◌}
use mathlib.Core.List.{List}
use mathlib.Core.Bool.{Bool, true, false, not}
use lib.Dec.{ltb}
use lib.ListN.{length}
use native.Mathlib.Omega.{arith}
use borrow.Author.Tests.{not-true, not-false}
use Rattle.hexfloat.specs.Answer.{Answer, gives, stops, provided, and_then}
use Rattle.orders.specs.declared.order.Operation.{Operation}
use Rattle.orders.specs.declared.order.Order.{Order}
use Rattle.orders.specs.Order.{legal_of, span_of, stored_of, is_halt, order_at}
use Rattle.protection.specs.Form.{ProtectList}
use Rattle.machine.specs.declared.state.Registers.{Registers}
use Rattle.machine.specs.declared.state.State.{State}
use Rattle.machine.specs.Operand.{address_in}
use Rattle.machine.specs.Check.{present, any_protected}
use Rattle.machine.specs.Decide.{entry_in, judged, pointer_of, decided}
use Rattle.machine.specs.Effect.{effect_of}
use Rattle.machine.specs.Seats.{registers_of}
use Rattle.hexfloat.proofs.Answers.{never, stops_inj, StopsBy, checked_by}
use Rattle.machine.proofs.Checks.{entry_number}
use Rattle.machine.proofs.Refusals.{effect_by, legal_by}
use Rattle.cause.specs.Arithmetic.{stop_in}

-- answers by what is known where they stop
module _ (P : ℕ → Type 0) where
  -- a check, and what it leaves known to the rest
  provided_known : {A : Type 0} (ok : Bool) (n : ℕ) (rest : Answer A) → (ok ≡ false → P n) → (ok ≡ true → StopsBy P rest) → StopsBy P (provided ok n rest)
  provided_known true n rest failed passed = passed refl
  provided_known false n rest failed passed = failed refl

  then_known :
      {A B : Type 0} (a : Answer A) (f : A → Answer B) → ((k : ℕ) → a ≡ stops k → P k) → ((x : A) → a ≡ gives x → StopsBy P (f x)) → StopsBy P (and_then a f)
  then_known (gives x) f failed passed = passed x refl
  then_known (stops k) f failed passed = failed k refl

  stops_known : {A : Type 0} (a : Answer A) → ((k : ℕ) → a ≡ stops k → P k) → StopsBy P a
  stops_known (gives x) h = tt
  stops_known (stops k) h = h k refl

  pub stop_known : {A : Type 0} (a : Answer A) → StopsBy P a → 1 ≤ stop_in a → P (stop_in a)
  stop_known (gives x) h some = absurd (omega arith)
  stop_known (stops k) h some = h

  stops_at : {A : Type 0} (a : Answer A) (k : ℕ) → a ≡ stops k → StopsBy P a → P k
  stops_at (gives x) k e h = never (sym e)
  stops_at (stops n) k e h = subst P (stops_inj e) h

-- the numbers that the arithmetic stops by
pub record Own (n : ℕ) : Type 0 where
  pub some : 8 ≤ n
  pub most : n ≤ 11

pub own_by : (op : Operation) (o : Order) (g : Registers) (m : List ℕ) (a : ℕ) → is_halt op.verb ≡ false → StopsBy Own (effect_of op o g m a)
own_by op o g m a goes = effect_by Own (λ n l u. record { some = l; most = u }) op o g m a (λ z. absurd (let y : ◌≡◌ {A = ℕ} 0 1 = cc in omega arith))

-- an order o with these registers, protect list and memory, its S at a, that is stopped by k: by check 5, by check 6, by check 7, or by its own arithmetic
pub record Known (o : Order) (g : Registers) (p : ProtectList) (m : List ℕ) (a k : ℕ) : Type 0 where
  pub illegal : k ≡ 5 → legal_of o ≡ stops 5
  pub absent : k ≡ 6 → (op : Operation) × (legal_of o ≡ gives op) × (present (span_of op) a (length m) ≡ false)
  pub protected :
      k ≡ 7 →
      (op : Operation) × (legal_of o ≡ gives op) × (present (span_of op) a (length m) ≡ true) × (any_protected p a (stored_of op) ≡ true)
  pub arithmetic :
      8 ≤ k → k ≤ 11 →
      (op : Operation) × (legal_of o ≡ gives op) × (present (span_of op) a (length m) ≡ true) × (effect_of op o g m a ≡ stops k)

module _ (o : Order) (g : Registers) (p : ProtectList) (m : List ℕ) (a : ℕ) where
  -- nothing is said of a stop before check 5, 20 among them, nor of 12 and 13
  outside : (k : ℕ) → (5 ≤ k → k ≤ 11 → ⊥) → Known o g p m a k
  outside k h = record {
    illegal = λ e. absurd (h (omega arith) (omega arith));
    absent = λ e. absurd (h (omega arith) (omega arith));
    protected = λ e. absurd (h (omega arith) (omega arith));
    arithmetic = λ l u. absurd (h (omega arith) u);
  }

  five : legal_of o ≡ stops 5 → Known o g p m a 5
  five h = record {
    illegal = λ e. h;
    absent = λ e. absurd (omega arith);
    protected = λ e. absurd (omega arith);
    arithmetic = λ l u. absurd (omega arith);
  }

  module _ (op : Operation) (legal : legal_of o ≡ gives op) where
    six : present (span_of op) a (length m) ≡ false → Known o g p m a 6
    six h = record {
      illegal = λ e. absurd (omega arith);
      absent = λ e. (op, legal, h);
      protected = λ e. absurd (omega arith);
      arithmetic = λ l u. absurd (omega arith);
    }

    seven : present (span_of op) a (length m) ≡ true → any_protected p a (stored_of op) ≡ true → Known o g p m a 7
    seven there h = record {
      illegal = λ e. absurd (omega arith);
      absent = λ e. absurd (omega arith);
      protected = λ e. (op, legal, there, h);
      arithmetic = λ l u. absurd (omega arith);
    }

    own : present (span_of op) a (length m) ≡ true → (k : ℕ) → Own k → effect_of op o g m a ≡ stops k → Known o g p m a k
    own there k n h = record {
      illegal = λ e. absurd (omega (arith, n.some));
      absent = λ e. absurd (omega (arith, n.some));
      protected = λ e. absurd (omega (arith, n.some));
      arithmetic = λ l u. (op, legal, there, h);
    }

    judged_known : (used journal : ℕ) → StopsBy (Known o g p m a) (judged o g used p m a journal op)
    unfolding judged
    judged_known used journal =
        provided_known (Known o g p m a) (not (is_halt op.verb)) 12 _ (λ z. outside 12 (λ l u. omega arith)) (λ goes.
        provided_known (Known o g p m a) (ltb used (journal / 4)) 13 _ (λ z. outside 13 (λ l u. omega arith)) (λ z.
        provided_known (Known o g p m a) (present (span_of op) a (length m)) 6 _ six (λ there.
        provided_known (Known o g p m a) (not (any_protected p a (stored_of op))) 7 _ (λ z. seven there (not-false (any_protected p a (stored_of op)) z)) (λ z.
        stops_known (Known o g p m a) (effect_of op o g m a) (λ k h.
        own there k (stops_at Own (effect_of op o g m a) k h (own_by op o g m a (not-true (is_halt op.verb) goes))) h)))))

  legal_known : (k : ℕ) → legal_of o ≡ stops k → Known o g p m a k
  legal_known k h =
      let is : k ≡ 5 = stops_at (λ (n : ℕ). n ≡ 5) (legal_of o) k h (legal_by (λ (n : ℕ). n ≡ 5) refl o) in
      subst (Known o g p m a) (sym is) (five (h ∙ ap stops is))

  entry_known : (k deck : ℕ) (s : State) (memory journal : ℕ) → Known o g p m a (entry_in k deck p s memory journal)
  entry_known k deck s memory journal =
      entry_number p s.seat0.status s.seat1.status s.used memory journal (Known o g p m a) k deck
      (outside 0 (λ l u. omega arith)) (λ h. outside 20 (λ l u. omega arith))
      (outside 1 (λ l u. omega arith)) (outside 2 (λ l u. omega arith)) (outside 3 (λ l u. omega arith))

pub decided_known :
    (d : List ℕ) (p : ProtectList) (k : ℕ) (s : State) (m : List ℕ) (journal : ℕ) →
    (let o = order_at d (pointer_of k s) in StopsBy (Known o (registers_of k s) p m (address_in o (registers_of k s))) (decided d p k s m journal))
unfolding decided
decided_known d p k s m journal =
    let g = registers_of k s in
    let o = order_at d (pointer_of k s) in
    let a = address_in o g in
    checked_by (Known o g p m a) (entry_in k (length d) p s (length m) journal) _ (λ z. entry_known o g p m a k (length d) s (length m) journal)
    (provided_known (Known o g p m a) (ltb (pointer_of k s) (length d / 4)) 4 _ (λ z. outside o g p m a 4 (λ l u. omega arith)) (λ z.
    then_known (Known o g p m a) (legal_of o) (judged o g s.used p m a journal) (legal_known o g p m a) (λ op legal. judged_known o g p m a op legal s.used journal)))
