-- A step changes no register that its order is not said to write, and what a register that it writes holds after it the effect alone decides.
use Prim.Native.Nat.{ℕ, ◌+◌, ◌%◌, ◌≤◌}
use mathlib.Core.Path.{◌≡◌, refl, sym, ap, ◌∙◌}
use mathlib.Core.List.Memᴰ
use mathlib.Core.List.{List, [], ◌∷◌, Memᴰ}
use mathlib.Core.Bool.{Bool, true, false}
use lib.Dec.{eqb}
use lib.ListN.{length, set, length-set}
use lib.Seq.{get_or-set_same, get_or-set_other}
use native.Mathlib.Omega.{arith}
use borrow.Author.Tests.{leb-true}
use Rattle.hexfloat.specs.declared.word.Width.{Width}
use Rattle.hexfloat.specs.declared.word.Words.{Words}
use Rattle.hexfloat.specs.Add.{summed_words}
use Rattle.hexfloat.specs.Answer.{Answer, gives, stops, mapped}
use Rattle.hexfloat.specs.Convert.{to_fixed}
use Rattle.hexfloat.specs.Divide.{quotient_words}
use Rattle.hexfloat.specs.Multiply.{product_words}
use Rattle.hexfloat.proofs.Answers.{gives_inj, never, mapped_gives}
use Rattle.orders.specs.declared.order.Operation.{Operation}
use Rattle.orders.specs.declared.order.Order.{Order}
use Rattle.orders.specs.declared.order.Verb.{Verb}
use Rattle.orders.specs.General.{general_cell, general_at}
use Rattle.orders.specs.Order.{legal_of}
use Rattle.orders.proofs.Generals.{register_there}
use Rattle.orders.specs.Role.{role_written}
use Rattle.protection.specs.Form.{ProtectList}
use Rattle.machine.specs.declared.change.Change.{Change}
use Rattle.machine.specs.declared.state.Registers.{Registers}
use Rattle.machine.specs.declared.state.Status.{Status}
use Rattle.machine.specs.declared.verdict.Effect.{Effect}
use Rattle.machine.specs.Change.{registered, float_change, storage_change, float_after, general_after, registers_after}
use Rattle.machine.specs.Effect.{fixed_into, result_into, product_width, performed, effect_of}
use Rattle.machine.specs.Jump.{jumped, counted_down}
use Rattle.machine.specs.Machine.{Machine, committed}
use Rattle.machine.specs.Operand.{float_at, float_operand, second_operand}
use Rattle.machine.specs.Seats.{registers_of}
use Rattle.machine.specs.Step.{outcome, onward, next_order, next_address, verdict_of, stepped}
use Rattle.machine.specs.Uses.{Register, float, general, contents, floats, named, written_by}
use Rattle.machine.proofs.Decided.{Taken, decided_taken}
use Rattle.conditions.specs.Theorems.{TypedRegisters, NextWrites}
use Rattle.conditions.proofs.Decisions.{registers_after_lem}
use Rattle.conditions.proofs.Sets.{other_general}

-- the registers that a change overwrites, a general one being of set s
abbrev touched_by : Change → ℕ → List Register
touched_by Change.Nothing s = []
touched_by (Change.Float r w) s = float r ∷ []
touched_by (Change.Pair r x y) s = float r ∷ float ((r + 1) % 8) ∷ []
touched_by (Change.General r w) s = general s r ∷ []
touched_by (Change.Two a w) s = []
touched_by (Change.Four a x y) s = []

abbrev touched : Effect → List Register
touched e = touched_by e.change e.status.selector

-- those of a float result are R r or pair r
float_touched : (u : Width) (s r : ℕ) (b : Words) → touched_by (float_change u r b) s ≡ floats u r
unfolding float_change floats
float_touched Width.Short s r b = refl
float_touched Width.Long s r b = refl

-- and a store has none
storage_touched : (u : Width) (s a : ℕ) (b : Words) → touched_by (storage_change u a b) s ≡ []
unfolding storage_change
storage_touched Width.Short s a b = refl
storage_touched Width.Long s a b = refl

module _ (o : Order) (g : Registers) (e : Effect) where
  abbrev selected : ℕ
  selected = g.status.selector

  -- what an effect that is given says of the registers
  as_given : {x : Effect} → gives x ≡ gives e → touched e ≡ touched x
  as_given h = ap touched (sym (gives_inj h))

  as_mapped : {A : Type 0} (f : A → Effect) (r : Answer A) (l : List Register) → ((a : A) → touched (f a) ≡ l) → mapped f r ≡ gives e → touched e ≡ l
  as_mapped f r l k h = let q = mapped_gives f r h in rw (← q.2) (k q.0)

  -- a result of arithmetic
  as_result : (sets : Bool) (u : Width) (r : Answer Words) → mapped (result_into sets u g.status o.r1) r ≡ gives e → touched e ≡ floats u o.r1
  as_result sets u r h = as_mapped (result_into sets u g.status o.r1) r (floats u o.r1) (float_touched u selected o.r1) h

  -- every verb overwrites just what the table says that it writes
  performed_touched : (v : Verb) (w : Width) (a : ℕ) (b : Words) → performed v w o g a b ≡ gives e → touched e ≡ named (role_written v) w o.r1 selected
  unfolding performed jumped counted_down named
  performed_touched Verb.Load w a b h = as_given h ∙ float_touched w selected o.r1 _
  performed_touched Verb.Complement w a b h = as_given h ∙ float_touched w selected o.r1 _
  performed_touched Verb.Compare w a b h = as_given h
  performed_touched Verb.Fix w a b h = as_mapped (fixed_into g.status o.r1) (to_fixed b.high) _ (λ c. refl) h
  performed_touched Verb.Float w a b h = as_given h
  performed_touched Verb.Divide w a b h = as_result false w (quotient_words w (eqb g.status.mask 1) (float_operand w g.float o.r1) b) h
  performed_touched Verb.Store w a b h = as_given h ∙ storage_touched w selected a _
  performed_touched Verb.LoadGeneral w a b h = as_given h
  performed_touched Verb.StoreGeneral w a b h = as_given h
  performed_touched Verb.SetMask w a b h = as_given h
  performed_touched Verb.Jump w a b h = as_given h
  performed_touched Verb.CountDown w a b h = as_given h
  performed_touched Verb.Halt w a b h = never h
  performed_touched (Verb.Sum sense) w a b h = as_result true w (summed_words sense w (eqb g.status.mask 1) (float_operand w g.float o.r1) b) h
  performed_touched Verb.Multiply w a b h =
      as_result false (product_width w o.r1) (product_words w (product_width w o.r1) (eqb g.status.mask 1) (float_operand w g.float o.r1) b) h
  performed_touched Verb.Select w a b h = as_given h

-- a float register that a change does not touch
float_kept : (ch : Change) (f : List ℕ) (s r : ℕ) → (Memᴰ (float r) (touched_by ch s) → ⊥) → float_at (float_after ch f) r ≡ float_at f r
unfolding float_after
float_kept Change.Nothing f s r k = refl
float_kept (Change.Float q w) f s r k = get_or-set_other f q r w 0 (λ z. k (Memᴰ.head (ap float z)))
float_kept (Change.Pair q x y) f s r k =
    get_or-set_other (set f q x) ((q + 1) % 8) r y 0 (λ z. k (Memᴰ.tail (Memᴰ.head (ap float z))))
    ∙ get_or-set_other f q r x 0 (λ z. k (Memᴰ.head (ap float z)))
float_kept (Change.General q w) f s r k = refl
float_kept (Change.Two a w) f s r k = refl
float_kept (Change.Four a x y) f s r k = refl

-- a general one
general_kept :
    (ch : Change) (n : List ℕ) (s t r : ℕ) → registered ch ≡ true → (Memᴰ (general t r) (touched_by ch s) → ⊥) →
    general_at (general_after ch n s) t r ≡ general_at n t r
unfolding general_after registered
general_kept Change.Nothing n s t r h k = refl
general_kept (Change.Float q w) n s t r h k = refl
general_kept (Change.Pair q x y) n s t r h k = refl
general_kept (Change.General q w) n s t r h k = other_general n s q w t r (leb-true q 7 h) (λ z u. k (Memᴰ.head (λ i. general (z i) (u i))))
general_kept (Change.Two a w) n s t r h k = refl
general_kept (Change.Four a x y) n s t r h k = refl

-- either
kept :
    (e : Effect) (g : Registers) (r : Register) → registered e.change ≡ true → (Memᴰ r (touched e) → ⊥) →
    contents (registers_after e g) r ≡ contents g r
kept e g (float r) h k = float_kept e.change g.float e.status.selector r k
kept e g (general t r) h k = general_kept e.change g.general e.status.selector t r h k

-- the register r holds, after the effect, a word that does not depend on what stood in the registers
abbrev pub Decides : Effect → Register → Type 0
Decides e r = (w : ℕ) × ((g : Registers) → TypedRegisters g → contents (registers_after e g) r ≡ w)

-- as every register does that a change touches
decides :
    (ch : Change) (z : Status) (r : Register) → registered ch ≡ true → z.selector ≤ 1 → Memᴰ r (touched_by ch z.selector) →
    Decides (record { change = ch; status = z }) r
unfolding registered float_after general_after
decides Change.Nothing z r h s m = absurd (Memᴰ.not-nil m)
decides (Change.Float q w) z r h s m =
    let few = leb-true q 7 h in
    (w, λ g t. rw (Memᴰ.eq_of_singleton m) (get_or-set_same g.float q w 0 (omega (arith, t.float))))
decides (Change.Pair q x y) z r h s (Memᴰ.head e) =
    let few = leb-true q 7 h in (
      x,
      λ g t.
          rw e
          (get_or-set_other (set g.float q x) ((q + 1) % 8) q y 0 (λ k. omega arith) ∙ get_or-set_same g.float q x 0 (omega (arith, t.float))),
    )
decides (Change.Pair q x y) z r h s (Memᴰ.tail m) =
    (y, λ g t. rw (Memᴰ.eq_of_singleton m) (get_or-set_same (set g.float q x) ((q + 1) % 8) y 0 (simp length-set (omega (arith, t.float)))))
decides (Change.General q w) z r h s m =
    let few = leb-true q 7 h in (
      w,
      λ g t.
          rw (Memᴰ.eq_of_singleton m)
          (register_there _ z.selector q s few ∙ get_or-set_same g.general (general_cell z.selector q) w 0 (omega (arith, t.general))),
    )
decides (Change.Two a w) z r h s m = absurd (Memᴰ.not-nil m)
decides (Change.Four a x y) z r h s m = absurd (Memᴰ.not-nil m)

module _ (d : List ℕ) (p : ProtectList) (k : ℕ) (x : Machine) where
  abbrev g : Registers
  g = registers_of k x.state

  taken : (e : Effect) → verdict_of d p k x ≡ gives e → Taken d p k x.state x.memory (length x.journal) e
  taken e h = decided_taken d p k x.state x.memory (length x.journal) e h

  -- a step that is taken overwrites just what the table says of its order
  taken_touched :
      (e : Effect) → verdict_of d p k x ≡ gives e → (op : Operation) → legal_of (next_order d k x) ≡ gives op →
      touched e ≡ written_by op (next_order d k x) g.status.selector
  unfolding effect_of
  taken_touched e h op legal =
      let t = taken e h in
      let by = t.operation in
      let same : by ≡ op = gives_inj (sym t.legal ∙ legal) in
      let b = second_operand by.place by.width (next_order d k x) g.float g.general g.status.selector x.memory (next_address d k x) in
      performed_touched (next_order d k x) g e by.verb by.width (next_address d k x) b t.effect
      ∙ ap (λ (y : Operation). written_by y (next_order d k x) g.status.selector) same

  -- so what it writes it decides
  pub written_decided : (e : Effect) → verdict_of d p k x ≡ gives e → (r : Register) → NextWrites d k x r → Decides e r
  written_decided e h r n =
      let fine = (taken e h).fine in
      decides e.change e.status r fine.registers fine.selector (rw (taken_touched e h n.operation n.legal) n.writes)

  -- and the others it keeps
  pub unwritten_kept : (r : Register) → (NextWrites d k x r → ⊥) → contents (registers_of k (stepped d p k x).after.state) r ≡ contents g r
  unfolding stepped
  unwritten_kept r no_write = cases (verdict_of d p k x) refl
    where
      after : Answer Effect → Registers
      after v = registers_of k (onward v x (λ e. committed k e x) (λ y. outcome y 0 0)).after.state

      cases : (v : Answer Effect) → verdict_of d p k x ≡ v → contents (after v) r ≡ contents g r
      cases (stops n) h = refl
      cases (gives e) h =
          let t = taken e h in
          ap (λ (q : Registers). contents q r) (registers_after_lem k e x)
          ∙ kept e g r t.fine.registers
          (λ m. no_write (record { operation = t.operation; legal = t.legal; writes = rw (taken_touched e h t.operation t.legal) at m }))
