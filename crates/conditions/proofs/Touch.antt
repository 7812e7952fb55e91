-- The halfwords that an order touches: the outcome of a step depends on no others, and it changes none that its order is not said to store to.
use Prim.Native.Nat.{ℕ, zero, suc, ◌+◌, ◌/◌, ◌%◌, ◌<◌, ◌≤◌}
use mathlib.Core.Path.{◌≡◌, refl, sym, ap, ap₂, subst, ◌∙◌}
use mathlib.Core.List.{List, [], ◌∷◌}
use mathlib.Core.Bool.{Bool, true, false, not}
use lib.Dec.{eqb, ltb}
use lib.ListN.{length, get_or, set, length-set}
use lib.Seq.{get_or-set_other}
use native.Mathlib.Omega.{arith}
use Rattle.hexfloat.specs.declared.word.Width.{Width}
use Rattle.hexfloat.specs.declared.word.Words.{Words}
use Rattle.hexfloat.specs.Add.{summed_words}
use Rattle.hexfloat.specs.Answer.{Answer, gives, stops, mapped, provided, checked}
use Rattle.hexfloat.specs.Convert.{to_fixed}
use Rattle.hexfloat.specs.Divide.{quotient_words}
use Rattle.hexfloat.specs.Multiply.{product_words}
use Rattle.hexfloat.proofs.Answers.{gives_inj, never, mapped_gives, then_same}
use Rattle.orders.specs.declared.order.Operation.{Operation}
use Rattle.orders.specs.declared.order.Order.{Order}
use Rattle.orders.specs.declared.order.Place.{Place}
use Rattle.orders.specs.declared.order.Verb.{Verb}
use Rattle.orders.specs.Order.{legal_of, halfwords, span_as, span_of, stored_as, is_halt, order_at}
use Rattle.protection.specs.Form.{ProtectList}
use Rattle.machine.specs.declared.change.Change.{Change}
use Rattle.machine.specs.declared.state.Registers.{Registers}
use Rattle.machine.specs.declared.state.Status.{Status}
use Rattle.machine.specs.declared.verdict.Effect.{Effect}
use Rattle.machine.specs.Change.{float_change, storage_change, put_word, memory_after, registers_after}
use Rattle.machine.specs.Decide.{entry_stop, accessed, judged}
use Rattle.machine.specs.Effect.{fixed_into, result_into, product_width, performed, effect_of}
use Rattle.machine.specs.Jump.{jumped, counted_down}
use Rattle.machine.specs.Machine.{Machine, committed}
use Rattle.machine.specs.Operand.{float_operand, storage_operand, second_operand, address_in}
use Rattle.machine.specs.Seats.{registers_of, other_of}
use Rattle.machine.specs.Step.{Outcome, outcome, onward, next_order, next_address, verdict_of, stepped}
use Rattle.machine.proofs.Decided.{Taken, decided_taken}
use Rattle.conditions.specs.Apart.{StoresTo}
use Rattle.conditions.specs.Theorems.{AlikeTouched, AlikeBoth}
use Rattle.machine.proofs.Seats.{decided_of, decided_own}
use Rattle.conditions.proofs.Decisions.{registers_after_lem}

-- two memories that agree in `span` halfwords from a on
abbrev pub Agree : List ℕ → List ℕ → ℕ → ℕ → Type 0
Agree m n a span = (i : ℕ) → a ≤ i → i < a + span → get_or m i 0 ≡ get_or n i 0

storage_agrees : (w : Width) (m n : List ℕ) (a : ℕ) → Agree m n a (halfwords w) → storage_operand w m a ≡ storage_operand w n a
unfolding storage_operand
storage_agrees Width.Short m n a h = rw (h a (omega arith) (omega arith), h (a + 1) (omega arith) (omega arith))
storage_agrees Width.Long m n a h =
    rw (
      h a (omega arith) (omega arith),
      h (a + 1) (omega arith) (omega arith),
      h (a + 2) (omega arith) (omega arith),
      h (a + 2 + 1) (omega arith) (omega arith),
    )

-- so the second operand is the same, wherever it is
second_agrees :
    (q : Place) (w : Width) (o : Order) (f g : List ℕ) (s : ℕ) (m n : List ℕ) (a : ℕ) → Agree m n a (span_as q w) → second_operand q w o f g s m a ≡ second_operand q w o f g s n a
unfolding second_operand
second_agrees Place.Nowhere w o f g s m n a h = refl
second_agrees Place.FloatRegister w o f g s m n a h = refl
second_agrees Place.GeneralRegister w o f g s m n a h = refl
second_agrees Place.Storage w o f g s m n a h = storage_agrees w m n a h

-- and with it checks 6 and 7 of a legal order and its effect
accessed_agrees :
    (o : Order) (g : Registers) (p : ProtectList) (m n : List ℕ) (a : ℕ) (op : Operation) → length m ≡ length n → Agree m n a (span_of op) →
    accessed o g p m a op ≡ accessed o g p n a op
unfolding effect_of
accessed_agrees o g p m n a op size h =
    rw (size, second_agrees op.place op.width o g.float g.general g.status.selector m n a h)

-- every check of a step, where those before check 5 and check 13 come out alike
pub decided_agrees :
    (d : List ℕ) (p : ProtectList) (k : ℕ) (g : Registers) (s t : Status) (u v : ℕ) (m n : List ℕ) (i j : ℕ) →
    entry_stop k (length d) p g.status s u (length m) i ≡ entry_stop k (length d) p g.status t v (length n) j → ltb u (i / 4) ≡ ltb v (j / 4) → length m ≡ length n →
    ((op : Operation) → legal_of (order_at d g.status.pointer) ≡ gives op → Agree m n (address_in (order_at d g.status.pointer) g) (span_of op)) →
    decided_of d p k g s u m i ≡ decided_of d p k g t v n j
unfolding judged
decided_agrees d p k g s t u v m n i j entry room size agree =
    let o = order_at d g.status.pointer in
    let a = address_in o g in
    ap₂ (λ (x : ℕ) (y : Answer Effect). checked x (provided (ltb g.status.pointer (length d / 4)) 4 y)) entry
    (then_same (legal_of o) (judged o g u p m a i) (judged o g v p n a j)
    (λ op legal. ap₂ (λ (b : Bool) (y : Answer Effect). provided (not (is_halt op.verb)) 12 (provided b 13 y)) room (accessed_agrees o g p m n a op size (agree op legal))))

-- the same change in two memories: what was the same is the same
set_alike : (m n : List ℕ) (k v i : ℕ) → length m ≡ length n → get_or m i 0 ≡ get_or n i 0 → get_or (set m k v) i 0 ≡ get_or (set n k v) i 0
set_alike [] [] k v i size h = refl
set_alike [] (y ∷ n) k v i size h = absurd (omega arith)
set_alike (x ∷ m) [] k v i size h = absurd (omega arith)
set_alike (x ∷ m) (y ∷ n) zero v zero size h = refl
set_alike (x ∷ m) (y ∷ n) zero v (suc i) size h = h
set_alike (x ∷ m) (y ∷ n) (suc k) v zero size h = h
set_alike (x ∷ m) (y ∷ n) (suc k) v (suc i) size h = set_alike m n k v i (omega arith) h

module _ (m n : List ℕ) (size : length m ≡ length n) (i : ℕ) (h : get_or m i 0 ≡ get_or n i 0) where
  word_alike : (a w : ℕ) → get_or (put_word a w m) i 0 ≡ get_or (put_word a w n) i 0
  word_alike a w =
      let left = w / 65536 % 65536 in
      set_alike (set m a left) (set n a left) (a + 1) (w % 65536) i (length-set m a left ∙ size ∙ sym (length-set n a left)) (set_alike m n a left i size h)

word_size : (m n : List ℕ) → length m ≡ length n → (a w : ℕ) → length (put_word a w m) ≡ length (put_word a w n)
word_size m n size a w = simp (length-set, size)

pub memory_alike : (ch : Change) (m n : List ℕ) → length m ≡ length n → (i : ℕ) → get_or m i 0 ≡ get_or n i 0 → get_or (memory_after ch m) i 0 ≡ get_or (memory_after ch n) i 0
unfolding memory_after
memory_alike Change.Nothing m n size i h = h
memory_alike (Change.Float r w) m n size i h = h
memory_alike (Change.Pair r x y) m n size i h = h
memory_alike (Change.General r w) m n size i h = h
memory_alike (Change.Two a w) m n size i h = word_alike m n size i h a w
memory_alike (Change.Four a x y) m n size i h = word_alike (put_word a x m) (put_word a x n) (word_size m n size a x) i (word_alike m n size i h a x) (a + 2) y

-- a halfword outside of those that are stored to
module _ (m : List ℕ) (i : ℕ) where
  -- keeps its contents under a change
  abbrev Clear : Change → Type 0
  Clear ch = get_or (memory_after ch m) i 0 ≡ get_or m i 0

  abbrev Outside : ℕ → ℕ → Type 0
  Outside a many = a ≤ i → i < a + many → ⊥

  word_clear : (l : List ℕ) (a w : ℕ) → Outside a 2 → get_or (put_word a w l) i 0 ≡ get_or l i 0
  word_clear l a w out =
      get_or-set_other (set l a (w / 65536 % 65536)) (a + 1) i (w % 65536) 0 (λ z. out (omega arith) (omega arith))
      ∙ get_or-set_other l a i (w / 65536 % 65536) 0 (λ z. out (omega arith) (omega arith))

  storage_clear : (w : Width) (a : ℕ) (b : Words) → Outside a (halfwords w) → Clear (storage_change w a b)
  unfolding memory_after storage_change
  storage_clear Width.Short a b out = word_clear m a b.high out
  storage_clear Width.Long a b out =
      word_clear (put_word a b.high m) (a + 2) b.low (λ l u. out (omega arith) (omega arith)) ∙ word_clear m a b.high (λ l u. out (omega arith) (omega arith))

  float_clear : (w : Width) (r : ℕ) (b : Words) → Clear (float_change w r b)
  unfolding memory_after float_change
  float_clear Width.Short r b = refl
  float_clear Width.Long r b = refl

  module _ (o : Order) (g : Registers) (e : Effect) where
    as_given : {x : Effect} → Clear x.change → gives x ≡ gives e → Clear e.change
    as_given c h = subst (λ (y : Effect). Clear y.change) (gives_inj h) c

    as_mapped : {A : Type 0} (f : A → Effect) (r : Answer A) → ((a : A) → Clear (f a).change) → mapped f r ≡ gives e → Clear e.change
    as_mapped f r c h = let q = mapped_gives f r h in subst (λ (y : Effect). Clear y.change) q.2 (c q.0)

    -- a result of arithmetic
    as_result : (sets : Bool) (u : Width) (r : Answer Words) → mapped (result_into sets u g.status o.r1) r ≡ gives e → Clear e.change
    as_result sets u r h = as_mapped (result_into sets u g.status o.r1) r (float_clear u o.r1) h

    -- only the stores store, and just where they are said to
    performed_clear : (v : Verb) (w : Width) (a : ℕ) (b : Words) → Outside a (stored_as v w) → performed v w o g a b ≡ gives e → Clear e.change
    unfolding performed jumped counted_down memory_after
    performed_clear Verb.Load w a b out h = as_given (float_clear w o.r1 _) h
    performed_clear Verb.Complement w a b out h = as_given (float_clear w o.r1 _) h
    performed_clear Verb.Compare w a b out h = as_given refl h
    performed_clear Verb.Fix w a b out h = as_mapped (fixed_into g.status o.r1) (to_fixed b.high) (λ c. refl) h
    performed_clear Verb.Float w a b out h = as_given refl h
    performed_clear Verb.Divide w a b out h = as_result false w (quotient_words w (eqb g.status.mask 1) (float_operand w g.float o.r1) b) h
    performed_clear Verb.Store w a b out h = as_given (storage_clear w a _ out) h
    performed_clear Verb.LoadGeneral w a b out h = as_given refl h
    performed_clear Verb.StoreGeneral w a b out h = as_given (word_clear m a _ out) h
    performed_clear Verb.SetMask w a b out h = as_given refl h
    performed_clear Verb.Jump w a b out h = as_given refl h
    performed_clear Verb.CountDown w a b out h = as_given refl h
    performed_clear Verb.Halt w a b out h = never h
    performed_clear (Verb.Sum sense) w a b out h = as_result true w (summed_words sense w (eqb g.status.mask 1) (float_operand w g.float o.r1) b) h
    performed_clear Verb.Multiply w a b out h =
        as_result false (product_width w o.r1) (product_words w (product_width w o.r1) (eqb g.status.mask 1) (float_operand w g.float o.r1) b) h
    performed_clear Verb.Select w a b out h = as_given refl h

-- a step that is taken
pub taken_clear :
    (d : List ℕ) (p : ProtectList) (k : ℕ) (x : Machine) (journal : ℕ) (e : Effect) → Taken d p k x.state x.memory journal e → (i : ℕ) →
    (StoresTo d k x.state i → ⊥) → get_or (memory_after e.change x.memory) i 0 ≡ get_or x.memory i 0
unfolding effect_of
taken_clear d p k x journal e t i out =
    let g = registers_of k x.state in
    let o = next_order d k x in
    let op = t.operation in
    let b = second_operand op.place op.width o g.float g.general g.status.selector x.memory (next_address d k x) in
    performed_clear x.memory i o g e op.verb op.width (next_address d k x) b
    (λ l u. out (record { operation = op; legal = t.legal; from = l; below = u })) t.effect

pub unstored_kept :
    (d : List ℕ) (p : ProtectList) (k : ℕ) (x : Machine) (a : ℕ) → (StoresTo d k x.state a → ⊥) →
    get_or (stepped d p k x).after.memory a 0 ≡ get_or x.memory a 0
unfolding stepped
unstored_kept d p k x a out = cases (verdict_of d p k x) refl
  where
    cases : (v : Answer Effect) → verdict_of d p k x ≡ v → get_or (onward v x (λ e. committed k e x) (λ y. outcome y 0 0)).after.memory a 0 ≡ get_or x.memory a 0
    cases (stops n) t = refl
    cases (gives e) t = taken_clear d p k x (length x.journal) e (decided_taken d p k x.state x.memory (length x.journal) e t) a out

module _ (d : List ℕ) (p : ProtectList) (k : ℕ) (x y : Machine) (alike : AlikeTouched d k x y) where
  abbrev g : Registers
  g = registers_of k x.state

  -- both are decided alike
  verdict_same : verdict_of d p k x ≡ verdict_of d p k y
  verdict_same =
      decided_own d p k x.state x.memory (length x.journal)
      ∙ decided_agrees d p k g (other_of k x.state).status (other_of k y.state).status x.state.used y.state.used x.memory y.memory (length x.journal) (length y.journal)
      (λ i. entry_stop k (length d) p g.status (alike.beside i) (alike.used i) (alike.size i) (alike.room i))
      (λ i. ltb (alike.used i) (alike.room i / 4))
      alike.size
      (λ op legal i l u. alike.touched i (record { operation = op; legal = legal; from = l; below = u }))
      ∙ ap (λ (r : Registers). decided_of d p k r (other_of k y.state).status y.state.used y.memory (length y.journal)) alike.registers
      ∙ sym (decided_own d p k y.state y.memory (length y.journal))

  pub untouched_free : AlikeBoth k x y (stepped d p k x) (stepped d p k y)
  unfolding stepped
  untouched_free = subst (λ (v : Answer Effect). AlikeBoth k x y (after (verdict_of d p k x) x) (after v y)) verdict_same (cases (verdict_of d p k x))
    where
      after : Answer Effect → Machine → Outcome Machine
      after v z = onward v z (λ e. committed k e z) (λ t. outcome t 0 0)

      cases : (v : Answer Effect) → AlikeBoth k x y (after v x) (after v y)
      cases (stops n) = record { taken = refl; stop = refl; registers = alike.registers; memory = λ i h. h }
      cases (gives e) = record {
        taken = refl;
        stop = refl;
        registers = registers_after_lem k e x ∙ ap (registers_after e) alike.registers ∙ sym (registers_after_lem k e y);
        memory = memory_alike e.change x.memory y.memory alike.size;
      }
