-- The step of an order on the machine made for it stops as its arithmetic does.
use Prim.Native.Nat.{ℕ, zero, suc, ◌+◌, ◌*◌, ◌/◌, ◌%◌, ◌≤◌}
use mathlib.Core.Path.{◌≡◌, refl, sym, ap, ◌∙◌}
use mathlib.Core.List.{List}
use mathlib.Core.Bool.{Bool, true, false, cond, ◌&&◌}
use lib.Dec.{eqb, leb}
use lib.ListN.{get_or, replicate}
use native.Mathlib.Omega.{arith}
use borrow.Author.Tests.{eqb-true, le-leb}
use Rattle.hexfloat.specs.declared.word.Width.{Width}
use Rattle.hexfloat.specs.Answer.{Answer, gives, stops}
use Rattle.orders.specs.declared.order.Operation.{Operation}
use Rattle.orders.specs.declared.order.Order.{Order}
use Rattle.orders.specs.declared.order.Place.{Place}
use Rattle.orders.specs.declared.order.Verb.{Verb}
use Rattle.orders.specs.Order.{rows, within_limits, legal_of, span_of, stored_of}
use Rattle.protection.specs.Form.{ProtectList, covers, is_protected}
use Rattle.machine.specs.declared.state.Registers.{Registers}
use Rattle.machine.specs.declared.verdict.Effect.{Effect}
use Rattle.orders.specs.Address.{index_of, address_of}
use Rattle.orders.specs.General.{general_cell, general_at}
use Rattle.machine.specs.Check.{deck_sized, buffers_sized, state_formed, present, any_protected}
use Rattle.machine.specs.Decide.{held_stop, entry_stop, judged, decided}
use Rattle.machine.specs.Effect.{effect_of}
use Rattle.machine.specs.Machine.{Machine, committed}
use Rattle.machine.specs.Seats.{registers_of}
use Rattle.machine.specs.Operand.{word_at, float_operand, storage_operand, second_operand}
use Rattle.machine.specs.Status.{condition_formed, status_formed}
use Rattle.machine.specs.Step.{outcome, onward, verdict_of, stepped}
use Rattle.hexfloat.proofs.Answers.{both}
use Rattle.orders.proofs.Passing.{legal-row}
use Rattle.orders.proofs.Table.{all_rows, row_passes}
use Rattle.protection.proofs.Bits.{no_bits}
use Rattle.machine.proofs.Checks.{present_fewer}
use Rattle.machine.proofs.Rows.{legal_passed}
use Rattle.cause.specs.Arithmetic.{stop_in, stop_by_row, stop_by}
use Rattle.cause.specs.Attempt.{halfwords_of, attempt_deck, attempt_protect, attempt_registers, attempt_machine, Accessible}
use Rattle.cause.specs.Cause.{values_of}
use Rattle.cause.specs.Theorems.{words_in}
use Rattle.cause.specs.Words.{arithmetic_operands, words_named}
use Rattle.cause.proofs.Arithmetic.{effect_stop}

-- the number of the verdict is that of the step
pub step_number : (d : List ℕ) (p : ProtectList) (k : ℕ) (x : Machine) → (stepped d p k x).stop ≡ stop_in (verdict_of d p k x)
unfolding stepped
step_number d p k x = cases (verdict_of d p k x)
  where
    cases : (v : Answer Effect) → (onward v x (λ e. committed k e x) (λ y. outcome y 0 0)).stop ≡ stop_in v
    cases (gives e) = refl
    cases (stops n) = refl

-- the order with its S at address 0
abbrev moved : Order → Order
moved o = record { code = o.code; r1 = o.r1; r2 = o.r2; at = 0 }

legal-moved : (o : Order) (op : Operation) → legal_of o ≡ gives op → legal_of (moved o) ≡ gives op
unfolding legal_of within_limits
legal-moved o op h =
    let q = legal-row o op h in
    let x = both (leb o.r1 op.r1) (leb o.r2 op.r2 && leb o.at op.at) q.1 in
    let y = both (leb o.r2 op.r2) (leb o.at op.at) x.1 in
    rw (q.0, x.0, y.0, le-leb 0 op.at (omega arith))

-- a list of zeros has nothing else, and past its end neither
blank : (n i : ℕ) → ◌≡◌ {A = ℕ} (get_or (replicate n 0) i 0) 0
blank zero i = refl
blank (suc n) zero = refl
blank (suc n) (suc i) = blank n i

-- general registers that are 0 leave its S there
no_index : (o : Order) → address_of (moved o) (replicate 16 0) 0 ≡ 0
unfolding address_of index_of general_at
no_index o = cases (eqb o.r2 0) (leb o.r2 7)
  where
    register : ℕ
    register = get_or (replicate 16 0) (general_cell 0 o.r2) 0

    cases : (b c : Bool) → 0 + cond b 0 (cond c register 0 % 65536) ≡ 0
    cases true c = refl
    cases false true = ap (λ (w : ℕ). 0 + w % 65536) (blank 16 (general_cell 0 o.r2))
    cases false false = refl

-- an order on a general register reads no word for its arithmetic
unfoldable reads_none : Place → Verb → Bool
reads_none Place.Nowhere v = true
reads_none Place.FloatRegister v = true
reads_none Place.GeneralRegister v = eqb (arithmetic_operands v) 0
reads_none Place.Storage v = true

rows_read : all_rows (λ code op. reads_none op.place op.verb) rows 1 ≡ true
unfolding all_rows reads_none
rows_read = refl

-- halfwords make up the word that they were taken from
rejoined : (w : ℕ) → w / 65536 * 65536 + w % 65536 ≡ w
rejoined w = omega arith

-- the words that the arithmetic reads, the second operand being in storage at address 0
words_moved :
    (q : Place) (v : Verb) (w : Width) (o : Order) (f n : List ℕ) (s : ℕ) (m : List ℕ) (a : ℕ) → reads_none q v ≡ true →
    words_named (arithmetic_operands v) w (float_operand w f o.r1) (second_operand q w (moved o) f (replicate 16 0) 0 (halfwords_of (second_operand q w o f n s m a)) 0)
    ≡ words_named (arithmetic_operands v) w (float_operand w f o.r1) (second_operand q w o f n s m a)
unfolding second_operand storage_operand reads_none words_named
words_moved Place.Nowhere v w o f n s m a h = refl
words_moved Place.FloatRegister v w o f n s m a h = refl
words_moved Place.GeneralRegister v w o f n s m a h = rw (eqb-true (arithmetic_operands v) 0 h)
words_moved Place.Storage v Width.Short o f n s m a h = rw (rejoined (word_at m a))
words_moved Place.Storage v Width.Long o f n s m a h = rw (rejoined (word_at m a), rejoined (word_at m (a + 2)))

-- four halfwords are there
all_there : (span : ℕ) → span ≤ 4 → present span 0 4 ≡ true
unfolding present
all_there span h = present_fewer span 4 0 4 h refl

-- and none is protected
none_protected : (a n : ℕ) → any_protected attempt_protect a n ≡ false
unfolding any_protected is_protected
none_protected a zero = refl
none_protected a (suc n) = rw (free a) (none_protected (a + 1) n)
  where
    free : (b : ℕ) → is_protected attempt_protect b ≡ false
    free b = rw (blank 1 (b / 8)) (no_bits b)

module _ (op : Operation) (o : Order) (g : Registers) (m : List ℕ) (a : ℕ) (legal : legal_of o ≡ gives op) (h : Accessible op g) where
  abbrev x : Machine
  x = attempt_machine g.float g.status.mask (second_operand op.place op.width o g.float g.general g.status.selector m a)

  abbrev bare : Registers
  bare = attempt_registers g.float g.status.mask

  -- every check before the arithmetic passes
  checks_pass : verdict_of (attempt_deck o) attempt_protect 0 x ≡ effect_of op (moved o) bare x.memory 0
  unfolding registers_of decided entry_stop held_stop deck_sized buffers_sized covers state_formed status_formed condition_formed judged
  checks_pass =
      rw (
        le-leb g.status.mask 1 h.mask,
        legal-moved o op legal,
        no_index o,
        h.goes,
        all_there (span_of op) (legal_passed o op legal).span,
        none_protected 0 (stored_of op),
      )

  same_words : words_in op (moved o) bare x.memory 0 ≡ words_in op o g m a
  same_words =
      ap values_of
      (words_moved op.place op.verb op.width o g.float g.general g.status.selector m a
      (row_passes (λ code op. reads_none op.place op.verb) rows_read o.code op (legal-row o op legal).0))

  -- and what it reads are the same words
  pub attempt_stop : (stepped (attempt_deck o) attempt_protect 0 x).stop ≡ stop_in (effect_of op o g m a)
  unfolding stop_by
  attempt_stop =
      step_number (attempt_deck o) attempt_protect 0 x
      ∙ ap stop_in checks_pass
      ∙ effect_stop op (moved o) (legal-moved o op legal) bare x.memory 0
      ∙ rw (legal-moved o op legal, legal) (ap (stop_by_row (gives op) o g.status.mask) same_words)
      ∙ sym (effect_stop op o legal g m a)
