-- Where a step leads: on to the next order or, from a jump, to `at`; and the selector after it. One case a verb.
use Prim.Native.Nat.{ℕ, ◌+◌, ◌/◌, ◌<◌}
use mathlib.Core.Path.{◌≡◌, refl, sym, ap, subst, ◌∙◌}
use mathlib.Core.List.{List}
use mathlib.Core.Logic.{◌⊎◌, inl, inr}
use mathlib.Core.Bool.{Bool, true, false, cond, not, ◌||◌}
use lib.Dec.{eqb, ltb}
use lib.ListN.{length}
use native.Mathlib.Omega.{arith}
use borrow.Author.Tests.{ltb-true, ne_eqb}
use Rattle.hexfloat.specs.declared.word.Width.{Width}
use Rattle.hexfloat.specs.declared.word.Words.{Words}
use Rattle.hexfloat.specs.Add.{summed_words}
use Rattle.hexfloat.specs.Answer.{Answer, gives, stops, mapped}
use Rattle.hexfloat.specs.Convert.{to_fixed}
use Rattle.hexfloat.specs.Divide.{quotient_words}
use Rattle.hexfloat.specs.Multiply.{product_words}
use Rattle.hexfloat.proofs.Answers.{gives_inj, never, mapped_gives, provided_gives, checked_gives}
use Rattle.orders.specs.declared.order.Operation.{Operation}
use Rattle.orders.specs.declared.order.Order.{Order}
use Rattle.orders.specs.declared.order.Verb.{Verb}
use Rattle.orders.specs.General.{general_at}
use Rattle.orders.specs.Order.{rows, order_at, legal_of, is_halt, is_jump, is_select}
use Rattle.orders.proofs.Passing.{legal-row}
use Rattle.orders.proofs.Table.{all_rows, row_passes}
use Rattle.protection.specs.Form.{ProtectList}
use Rattle.machine.specs.declared.state.Registers.{Registers}
use Rattle.machine.specs.declared.state.State.{State}
use Rattle.machine.specs.declared.verdict.Effect.{Effect}
use Rattle.machine.specs.Decide.{entry_in, pointer_of, decided}
use Rattle.machine.specs.Effect.{fixed_into, result_into, product_width, performed, effect_of}
use Rattle.machine.specs.Jump.{jumps, one_less, jumped, counted_down}
use Rattle.machine.specs.Machine.{Machine, committed}
use Rattle.machine.specs.Operand.{float_operand, second_operand, address_in}
use Rattle.machine.specs.Seats.{registers_of}
use Rattle.machine.specs.Step.{Outcome, outcome, onward, next_order, verdict_of, stepped}
use Rattle.machine.proofs.Decided.{Taken, decided_taken}
use Rattle.conditions.proofs.Decisions.{registers_after_lem}
use Rattle.conditions.proofs.Leaves.{stop_number}

-- a verb that only rows of some codes have
unfoldable pub only : (Verb → Bool) → (ℕ → Bool) → ℕ → Operation → Bool
only verb some code op = not (verb op.verb) || some code

-- an order of another code has another verb
pub other_verb :
    (verb : Verb → Bool) (some : ℕ → Bool) → all_rows (only verb some) rows 1 ≡ true → (o : Order) (op : Operation) → legal_of o ≡ gives op →
    some o.code ≡ false → verb op.verb ≡ false
unfolding only
other_verb verb some all o op legal none =
    cases (verb op.verb) (some o.code) none (row_passes (only verb some) all o.code op (legal-row o op legal).0)
  where
    cases : (a b : Bool) → b ≡ false → (not a || b) ≡ true → a ≡ false
    cases false b n h = refl
    cases true b n h = absurd (let z : true ≡ false = sym h ∙ n in let y : ◌≡◌ {A = ℕ} 0 1 = cc in omega arith)

-- an effect of an order with verb v, from the registers g
pub record Led (v : Verb) (o : Order) (g : Registers) (e : Effect) : Type 0 where
  pub goes : is_halt v ≡ false
  pub pointer : (e.status.pointer ≡ g.status.pointer + 1) ⊎ ((is_jump v ≡ true) × (is_select v ≡ false) × (e.status.pointer ≡ o.at))
  pub selector : e.status.selector ≡ cond (is_select v) o.r2 g.status.selector

module _ (o : Order) (g : Registers) where
  -- one that leads on
  on :
      {v : Verb} {x : Effect} → is_halt v ≡ false → x.status.pointer ≡ g.status.pointer + 1 →
      x.status.selector ≡ cond (is_select v) o.r2 g.status.selector → Led v o g x
  on h p s = record { goes = h; pointer = inl p; selector = s }

  -- and one that goes one of two ways
  either :
      {v : Verb} {x : Effect} (b : Bool) → is_halt v ≡ false → is_jump v ≡ true → is_select v ≡ false → x.status.pointer ≡ cond b o.at (g.status.pointer + 1) →
      x.status.selector ≡ cond (is_select v) o.r2 g.status.selector → Led v o g x
  either true h j n p s = record { goes = h; pointer = inr (j, n, p); selector = s }
  either false h j n p s = record { goes = h; pointer = inl p; selector = s }

  module _ (e : Effect) where
    as_given : {v : Verb} {x : Effect} → Led v o g x → gives x ≡ gives e → Led v o g e
    as_given {v} l h = subst (Led v o g) (gives_inj h) l

    as_mapped : {v : Verb} {A : Type 0} (f : A → Effect) (r : Answer A) → ((a : A) → Led v o g (f a)) → mapped f r ≡ gives e → Led v o g e
    as_mapped {v} f r l h = let q = mapped_gives f r h in subst (Led v o g) q.2 (l q.0)

    -- a result of arithmetic
    as_result :
        {v : Verb} (sets : Bool) (u : Width) (r : Answer Words) → ((a : Words) → Led v o g (result_into sets u g.status o.r1 a)) →
        mapped (result_into sets u g.status o.r1) r ≡ gives e → Led v o g e
    as_result sets u r l h = as_mapped (result_into sets u g.status o.r1) r l h

    pub performed_led : (v : Verb) (w : Width) (a : ℕ) (b : Words) → performed v w o g a b ≡ gives e → Led v o g e
    unfolding performed jumped counted_down
    performed_led Verb.Load w a b h = as_given (on refl refl refl) h
    performed_led Verb.Complement w a b h = as_given (on refl refl refl) h
    performed_led Verb.Compare w a b h = as_given (on refl refl refl) h
    performed_led Verb.Fix w a b h = as_mapped (fixed_into g.status o.r1) (to_fixed b.high) (λ c. on refl refl refl) h
    performed_led Verb.Float w a b h = as_given (on refl refl refl) h
    performed_led Verb.Divide w a b h =
        as_result false w (quotient_words w (eqb g.status.mask 1) (float_operand w g.float o.r1) b) (λ c. on refl refl refl) h
    performed_led Verb.Store w a b h = as_given (on refl refl refl) h
    performed_led Verb.LoadGeneral w a b h = as_given (on refl refl refl) h
    performed_led Verb.StoreGeneral w a b h = as_given (on refl refl refl) h
    performed_led Verb.SetMask w a b h = as_given (on refl refl refl) h
    performed_led Verb.Jump w a b h = as_given (either (jumps o.r1 g.status.condition) refl refl refl refl refl) h
    performed_led Verb.CountDown w a b h =
        let left = one_less (general_at g.general g.status.selector o.r1) in as_given (either (not (eqb left 0)) refl refl refl refl refl) h
    performed_led Verb.Halt w a b h = never h
    performed_led (Verb.Sum sense) w a b h =
        as_result true w (summed_words sense w (eqb g.status.mask 1) (float_operand w g.float o.r1) b) (λ c. on refl refl refl) h
    performed_led Verb.Multiply w a b h =
        as_result false (product_width w o.r1) (product_words w (product_width w o.r1) (eqb g.status.mask 1) (float_operand w g.float o.r1) b)
        (λ c. on refl refl refl) h
    performed_led Verb.Select w a b h = as_given (on refl refl refl) h

module _ (d : List ℕ) (p : ProtectList) (k : ℕ) (s : State) (m : List ℕ) (journal : ℕ) (e : Effect) where
  -- of a step that is taken
  pub taken_led : (t : Taken d p k s m journal e) → Led t.operation.verb (order_at d (pointer_of k s)) (registers_of k s) e
  unfolding effect_of
  taken_led t =
      let g = registers_of k s in
      let o = order_at d (pointer_of k s) in
      let op = t.operation in
      let a = address_in o g in
      performed_led o g e op.verb op.width a (second_operand op.place op.width o g.float g.general g.status.selector m a) t.effect

  -- check 4 passes where a step is taken
  pub decided_inside : decided d p k s m journal ≡ gives e → pointer_of k s < length d / 4
  unfolding decided
  decided_inside h =
      let k3 = checked_gives (entry_in k (length d) p s (length m) journal) _ h in
      let k4 = provided_gives (ltb (pointer_of k s) (length d / 4)) 4 _ k3.1 in
      ltb-true (pointer_of k s) (length d / 4) k4.0

-- the codes of JC and JN
unfoldable jump_code : ℕ → Bool
jump_code code = eqb code 20 || eqb code 21

rows_jump : all_rows (only (λ v. is_jump v) jump_code) rows 1 ≡ true
unfolding all_rows only jump_code
rows_jump = refl

no_jump_code : (code : ℕ) → (code ≡ 20 → ⊥) → (code ≡ 21 → ⊥) → jump_code code ≡ false
unfolding jump_code
no_jump_code code a b = rw (ne_eqb code 20 a, ne_eqb code 21 b)

module _ (d : List ℕ) (p : ProtectList) (k : ℕ) (x : Machine) (jc : (next_order d k x).code ≡ 20 → ⊥) (jn : (next_order d k x).code ≡ 21 → ⊥) where
  -- what an effect of any other order leaves of the pointer
  pub taken_on : (e : Effect) → verdict_of d p k x ≡ gives e → pointer_of k (committed k e x).state ≡ pointer_of k x.state + 1
  taken_on e h =
      let t = decided_taken d p k x.state x.memory (length x.journal) e h in
      let none = other_verb (λ v. is_jump v) jump_code rows_jump (next_order d k x) t.operation t.legal (no_jump_code (next_order d k x).code jc jn) in
      ap (λ (r : Registers). r.status.pointer) (registers_after_lem k e x)
      ∙ cases (is_jump t.operation.verb) none (taken_led d p k x.state x.memory (length x.journal) e t).pointer
    where
      cases :
          {A : Type 0} {a b c : ℕ} (j : Bool) → j ≡ false → (a ≡ b) ⊎ ((j ≡ true) × A × (a ≡ c)) → a ≡ b
      cases j n (inl h) = h
      cases j n (inr h) = absurd (let z : true ≡ false = sym h.0 ∙ n in let y : ◌≡◌ {A = ℕ} 0 1 = cc in omega arith)

  pub moves_on : (stepped d p k x).stop ≡ 0 → pointer_of k (stepped d p k x).after.state ≡ pointer_of k x.state + 1
  unfolding stepped
  moves_on z = cases (verdict_of d p k x) refl z
    where
      after : Answer Effect → Outcome Machine
      after v = onward v x (λ e. committed k e x) (λ y. outcome y 0 0)

      cases : (v : Answer Effect) → verdict_of d p k x ≡ v → (after v).stop ≡ 0 → pointer_of k (after v).after.state ≡ pointer_of k x.state + 1
      cases (stops n) t z = absurd (stop_number d p k x n t z)
      cases (gives e) t z = taken_on e t
