-- The outcome of a step depends on no register that its order is not said to read.
use Prim.Native.Nat.{ℕ, zero, suc, ◌+◌, ◌/◌, ◌%◌}
use mathlib.Core.Path.{◌≡◌, refl, sym, ap, ap₂, subst, ◌∙◌}
use mathlib.Core.List.Memᴰ
use mathlib.Core.List.{List, [], ◌∷◌, Memᴰ}
use mathlib.Core.Bool.{Bool, true, false, cond, not}
use lib.Dec.{eqb, ltb}
use lib.ListN.{length}
use native.Mathlib.Omega.{arith}
use Rattle.hexfloat.specs.declared.word.Width.{Width}
use Rattle.hexfloat.specs.declared.word.Words.{Words}
use Rattle.hexfloat.specs.Answer.{Answer, gives, stops, provided, checked}
use Rattle.hexfloat.specs.Word.{short_words, long_words}
use Rattle.hexfloat.proofs.Answers.{then_same}
use Rattle.orders.specs.declared.order.Operation.{Operation}
use Rattle.orders.specs.declared.order.Order.{Order}
use Rattle.orders.specs.declared.order.Place.{Place}
use Rattle.orders.specs.declared.order.Verb.{Verb}
use Rattle.orders.specs.Address.{index_of, address_of}
use Rattle.orders.specs.General.{general_at}
use Rattle.orders.specs.Order.{legal_of, span_as, span_of, stored_as, stored_of, is_halt, order_at}
use Rattle.orders.specs.Role.{role_read}
use Rattle.protection.specs.Form.{ProtectList}
use Rattle.machine.specs.declared.state.Registers.{Registers}
use Rattle.machine.specs.declared.state.Status.{Status}
use Rattle.machine.specs.declared.verdict.Effect.{Effect}
use Rattle.machine.specs.Change.{memory_after}
use Rattle.machine.specs.Check.{present, any_protected}
use Rattle.machine.specs.Decide.{entry_stop, accessed, judged}
use Rattle.machine.specs.Effect.{performed, effect_of}
use Rattle.machine.specs.Machine.{Machine, registers, committed}
use Rattle.machine.specs.Operand.{float_operand, storage_operand, second_operand, address_in}
use Rattle.machine.specs.Seats.{registers_of, other_of}
use Rattle.machine.specs.Step.{Outcome, outcome, onward, next_order, verdict_of, stepped}
use Rattle.machine.specs.Uses.{Register, float, general, contents, floats, index_read, second_read, named, read_by}
use Rattle.machine.proofs.Placed.{some}
use Rattle.machine.proofs.Rows.{legal_passed}
use Rattle.conditions.specs.Theorems.{AlikeRead, AlikeAfter}
use Rattle.machine.proofs.Seats.{decided_of, decided_own}
use Rattle.conditions.proofs.Decisions.{registers_after_lem, other_after}
use Rattle.conditions.proofs.Leaves.{stop_number}
use Rattle.conditions.proofs.Written.{written_decided}

-- what is asked of no halfword needs no address
at_needed : {A : Type 0} (f : ℕ → ℕ → A) → ((a c : ℕ) → f 0 a ≡ f 0 c) → (k a c : ℕ) → ((k ≡ 0 → ⊥) → a ≡ c) → f k a ≡ f k c
at_needed f none zero a c h = none a c
at_needed f none (suc k) a c h = ap (f (suc k)) (h (λ z. omega arith))

-- two machines' registers under one status
module _ (s : Status) (f n f' n' : List ℕ) where
  abbrev one : Registers
  one = registers f n s

  abbrev other : Registers
  other = registers f' n' s

  abbrev selected : ℕ
  selected = s.selector

  -- they hold the same in every register of a list
  abbrev Same : List Register → Type 0
  Same l = (r : Register) → Memᴰ r l → contents one r ≡ contents other r

  -- so an operand in float registers is the same,
  float_same : (w : Width) (r : ℕ) → Same (floats w r) → float_operand w f r ≡ float_operand w f' r
  unfolding floats float_operand
  float_same Width.Short r k = ap short_words (k (float r) (Memᴰ.head refl))
  float_same Width.Long r k = ap₂ long_words (k (float r) (Memᴰ.head refl)) (k (float ((r + 1) % 8)) (Memᴰ.tail (Memᴰ.head refl)))

  -- and one in a general register of the selected set
  general_same : (r : ℕ) → Same (general selected r ∷ []) → general_at n selected r ≡ general_at n' selected r
  general_same r k = k (general selected r) (Memᴰ.head refl)

  module _ (o : Order) where
    -- where S begins
    abbrev a : ℕ
    a = address_in o one

    abbrev a' : ℕ
    a' = address_in o other

    -- the same, if the index register is
    address_same : Same (index_read selected o.r2) → a ≡ a'
    unfolding address_of index_of index_read
    address_same k = ap (λ (i : ℕ). o.at + i) (cases (eqb o.r2 0) k)
      where
        index : List ℕ → ℕ
        index l = general_at l selected o.r2 % 65536

        cases : (b : Bool) → Same (cond b [] (general selected o.r2 ∷ [])) → cond b 0 (index n) ≡ cond b 0 (index n')
        cases true k = refl
        cases false k = ap (λ (w : ℕ). w % 65536) (general_same o.r2 k)

    -- of an order whose S has any halfword
    span_same : (q : Place) (w : Width) → Same (second_read q w o selected) → (span_as q w ≡ 0 → ⊥) → a ≡ a'
    unfolding second_read
    span_same Place.Nowhere w k z = absurd (z refl)
    span_same Place.FloatRegister w k z = absurd (z refl)
    span_same Place.GeneralRegister w k z = absurd (z refl)
    span_same Place.Storage w k z = address_same k

    -- the second operand, wherever it is
    second_same :
        (q : Place) (w : Width) (m : List ℕ) → Same (second_read q w o selected) →
        second_operand q w o f n selected m a ≡ second_operand q w o f' n' selected m a'
    unfolding second_read second_operand
    second_same Place.Nowhere w m k = refl
    second_same Place.FloatRegister w m k = float_same w o.r2 k
    second_same Place.GeneralRegister w m k = ap short_words (general_same o.r2 k)
    second_same Place.Storage w m k = ap (storage_operand w m) (address_same k)

    -- besides its second operand an order looks at the first, where it is said to read it, and at where S is, where it stores
    performed-same :
        (v : Verb) (w : Width) (b : Words) → Same (named (role_read v) w o.r1 selected) → ((stored_as v w ≡ 0 → ⊥) → a ≡ a') →
        performed v w o one a b ≡ performed v w o other a' b
    unfolding performed named
    performed-same Verb.Load w b k at = refl
    performed-same Verb.Complement w b k at = refl
    performed-same Verb.Compare w b k at = rw (float_same w o.r1 k)
    performed-same Verb.Fix w b k at = refl
    performed-same Verb.Float w b k at = refl
    performed-same Verb.Divide w b k at = rw (float_same w o.r1 k)
    performed-same Verb.Store w b k at = rw (float_same w o.r1 k, at (λ z. omega (arith, some w)))
    performed-same Verb.LoadGeneral w b k at = refl
    performed-same Verb.StoreGeneral w b k at = rw (general_same o.r1 k, at (λ z. omega arith))
    performed-same Verb.SetMask w b k at = refl
    performed-same Verb.Jump w b k at = refl
    performed-same Verb.CountDown w b k at = rw (general_same o.r1 k)
    performed-same Verb.Halt w b k at = refl
    performed-same (Verb.Sum sense) w b k at = rw (float_same w o.r1 k)
    performed-same Verb.Multiply w b k at = rw (float_same w o.r1 k)
    performed-same Verb.Select w b k at = refl

    -- checks 6 and 7 of a legal order, and its effect
    accessed-same :
        (p : ProtectList) (m : List ℕ) (op : Operation) → legal_of o ≡ gives op → Same (read_by op o selected) →
        accessed o one p m a op ≡ accessed o other p m a' op
    unfolding effect_of present any_protected
    accessed-same p m op legal k =
        let v = op.verb in
        let w = op.width in
        let q = op.place in
        let first : Same (named (role_read v) w o.r1 selected) = λ r i. k r (Memᴰ.append_left (second_read q w o selected) i) in
        let second : Same (second_read q w o selected) = λ r i. k r (Memᴰ.append_right (named (role_read v) w o.r1 selected) i) in
        let spanned : (span_of op ≡ 0 → ⊥) → a ≡ a' = span_same q w second in
        let stored : (stored_of op ≡ 0 → ⊥) → a ≡ a' = λ z. spanned (λ y. z (omega (arith, (legal_passed o op legal).stored))) in
        rw (
          at_needed (λ (k a : ℕ). present k a (length m)) (λ a c. refl) (span_of op) a a' spanned,
          at_needed (λ (k a : ℕ). any_protected p a k) (λ a c. refl) (stored_of op) a a' stored,
          second_same q w m second,
          performed-same v w (second_operand q w o f' n' selected m a') first stored,
        )

  -- every check of a step, where the registers that the order at the pointer reads hold the same
  decided-same :
      (d : List ℕ) (p : ProtectList) (k : ℕ) (beside : Status) (used : ℕ) (m : List ℕ) (journal : ℕ) →
      ((op : Operation) → legal_of (order_at d s.pointer) ≡ gives op → Same (read_by op (order_at d s.pointer) selected)) →
      decided_of d p k one beside used m journal ≡ decided_of d p k other beside used m journal
  unfolding judged
  decided-same d p k beside used m journal same =
      let o = order_at d s.pointer in
      ap (λ (e : Answer Effect). checked (entry_stop k (length d) p s beside used (length m) journal) (provided (ltb s.pointer (length d / 4)) 4 e))
      (then_same (legal_of o) (judged o one used p m (a o) journal) (judged o other used p m (a' o) journal)
      (λ op legal. ap (λ (e : Answer Effect). provided (not (is_halt op.verb)) 12 (provided (ltb used (journal / 4)) 13 e))
      (accessed-same o p m op legal (same op legal))))

module _ (d : List ℕ) (p : ProtectList) (k : ℕ) (x y : Machine) (alike : AlikeRead d k x y) where
  abbrev g : Registers
  g = registers_of k x.state

  abbrev h : Registers
  h = registers_of k y.state

  -- both are decided alike
  verdict_same : verdict_of d p k x ≡ verdict_of d p k y
  verdict_same =
      decided_own d p k x.state x.memory (length x.journal)
      ∙ decided-same g.status g.float g.general h.float h.general d p k (other_of k x.state).status x.state.used x.memory (length x.journal) agree
      ∙ (λ i. decided_of d p k (registers h.float h.general (alike.status i)) (alike.beside i) (alike.used i) (alike.memory i) (alike.room i))
      ∙ sym (decided_own d p k y.state y.memory (length y.journal))
    where
      agree :
          (op : Operation) → legal_of (next_order d k x) ≡ gives op →
          Same g.status g.float g.general h.float h.general (read_by op (next_order d k x) g.status.selector)
      agree op legal r m =
          alike.read r (record { operation = op; legal = legal; reads = m })
          ∙ ap (λ (s : Status). contents (registers h.float h.general s) r) (sym alike.status)

  -- and so they come out alike: what stands after a step is the effect's, or as it was
  pub unread_free : AlikeAfter d k x (stepped d p k x) (stepped d p k y)
  unfolding stepped
  unread_free = subst (λ (v : Answer Effect). AlikeAfter d k x (after (verdict_of d p k x) x) (after v y)) verdict_same (cases (verdict_of d p k x) refl)
    where
      after : Answer Effect → Machine → Outcome Machine
      after v z = onward v z (λ e. committed k e z) (λ t. outcome t 0 0)

      cases : (v : Answer Effect) → verdict_of d p k x ≡ v → AlikeAfter d k x (after v x) (after v y)
      cases (stops n) t = record {
        taken = refl;
        stop = refl;
        status = alike.status;
        beside = alike.beside;
        used = alike.used;
        memory = alike.memory;
        written = λ z. absurd (stop_number d p k x n t z);
      }
      cases (gives e) t = record {
        taken = refl;
        stop = refl;
        status = ap (λ (r : Registers). r.status) (registers_after_lem k e x) ∙ ap (λ (r : Registers). r.status) (sym (registers_after_lem k e y));
        beside = ap (λ (r : Registers). r.status) (other_after k e x) ∙ alike.beside ∙ ap (λ (r : Registers). r.status) (sym (other_after k e y));
        used = ap (λ (n : ℕ). n + 1) alike.used;
        memory = ap (memory_after e.change) alike.memory;
        written = λ z r n.
            let w = written_decided d p k x e t r n in
            ap (λ (q : Registers). contents q r) (registers_after_lem k e x) ∙ w.1 g alike.typed ∙ sym (w.1 h alike.typed_too) ∙ ap (λ (q : Registers). contents q r) (sym (registers_after_lem k e y));
      }
