-- What is answered of a legal order, by the checks that it passes.
use Rattle.std.specs.Prelude.{Result, Ok, Err}
use Prim.Native.Nat.{ℕ, ◌+◌, ◌/◌, ◌<◌, ◌≤◌}
use mathlib.Core.Path.{◌≡◌, refl, sym, ap, ◌∙◌}
use mathlib.Core.List.{List}
use mathlib.Core.Bool.{Bool, true, false, cond}
use lib.Dec.{ltb}
use lib.ListN.{length}
use native.Mathlib.Omega.{arith}
use borrow.Author.Tests.{lt-ltb, le-ltb}
use Rattle.hexfloat.specs.Answer.{Answer, gives, stops, provided, checked}
use Rattle.orders.specs.declared.order.Operation.{Operation}
use Rattle.orders.specs.declared.order.Order.{Order}
use Rattle.orders.specs.Order.{legal_of, span_of, stored_of, order_at}
use Rattle.protection.specs.Form.{ProtectList, is_protected}
use Rattle.machine.specs.declared.stop.Stop.{Stop}
use Rattle.machine.specs.declared.fetching.Operands.{Operands}
use Rattle.machine.specs.declared.state.Registers.{Registers}
use Rattle.machine.specs.declared.state.State.{State}
use Rattle.machine.specs.declared.state.Status.{Status}
use Rattle.machine.specs.Operand.{address_in}
use Rattle.machine.specs.Check.{present}
use Rattle.machine.specs.Decide.{entry_stop, entry_in, accessed, judged_at, decided}
use Rattle.machine.specs.Effect.{effect_of}
use Rattle.machine.specs.Stops.{number_of}
use Rattle.machine.specs.Fetch.{operands_of, operands_read, says_fetched}
use Rattle.machine.specs.Machine.{machine}
use Rattle.machine.specs.Seats.{registers_of}
use Rattle.machine.specs.Step.{stepped}
use Rattle.machine.proofs.Checks.{entry_number}
use Rattle.hexfloat.proofs.Answers.{gives_inj, never}
use Rattle.cause.specs.declared.naming.Cause.{Cause}
use Rattle.cause.specs.declared.naming.Named.{Named}
use Rattle.cause.specs.Arithmetic.{stop_in}
use Rattle.cause.specs.Attempt.{attempt_deck, attempt_protect, attempt_machine, Accessible}
use Rattle.cause.specs.Cause.{cause, cause_number, named_for, explained, why_of}
use Rattle.cause.specs.Storage.{lowest, is_absent, lowest_absent, lowest_protected}
use Rattle.cause.specs.Words.{words_read}
use Rattle.cause.proofs.Attempted.{attempt_stop}
use Rattle.cause.proofs.Lowest.{any_lowest}
use Rattle.cause.proofs.Numbers.{number_same, named_words}
use Rattle.cause.proofs.Reached.{stop_known, Own, own_by}

module _ (op : Operation) (o : Order) (g : Registers) (m : List ℕ) (a : ℕ) (legal : legal_of o ≡ gives op) where
  abbrev there : Bool
  there = present (span_of op) a (length m)

  abbrev read : Answer Operands
  read = operands_read o g.float g.general g.status.selector m a

  -- S of an order whose operands were not read is absent, and of one whose operands were read it is there
  not_given : (k : ℕ) → stops k ≡ read → there ≡ false
  unfolding operands_read
  not_given k h = cases there (rw (legal) at h)
    where
      cases : (b : Bool) → stops k ≡ cond b (gives (operands_of o g.float g.general g.status.selector m a op)) (stops 6) → b ≡ false
      cases true e = never e
      cases false e = refl

  pub unread : (r : Result Operands Stop) → ((q : Operands) → r ≡ Ok q → ⊥) → says_fetched r ≡ read → there ≡ false
  unread (Ok q) never_read h = absurd (never_read q refl)
  unread (Err k) never_read h = not_given (number_of k) h

  given : (q : Operands) → gives q ≡ read → (there ≡ true) × (q ≡ operands_of o g.float g.general g.status.selector m a op)
  unfolding operands_read
  given q h = cases there refl (rw (legal) at h)
    where
      cases :
          (b : Bool) → there ≡ b → gives q ≡ cond b (gives (operands_of o g.float g.general g.status.selector m a op)) (stops 6) →
          (there ≡ true) × (q ≡ operands_of o g.float g.general g.status.selector m a op)
      cases true e z = (e, gives_inj z)
      cases false e z = never (sym z)

-- of an order that passed checks 5, 12 and 13
module _ (op : Operation) (o : Order) (g : Registers) (p : ProtectList) (m : List ℕ) (legal : legal_of o ≡ gives op) (h : Accessible op g) where
  abbrev at : ℕ
  at = address_in o g

  abbrev answer : Cause
  answer = explained (stop_in (accessed o g p m at op)) o g m at p

  pub explain_absent : present (span_of op) at (length m) ≡ false → answer ≡ cause 6 (Named.Address (lowest (is_absent (length m)) at (span_of op)))
  unfolding cause_number named_for lowest_absent
  explain_absent absent = rw (absent, legal)

  module _ (q : Operands) (operands : gives q ≡ operands_read o g.float g.general g.status.selector m at) where
    reached : present (span_of op) at (length m) ≡ true
    reached = (given op o g m at legal q operands).0

    pub explain_protected : lowest (is_protected p) at (stored_of op) < at + stored_of op → answer ≡ cause 7 (Named.Address (lowest (is_protected p) at (stored_of op)))
    unfolding cause_number named_for lowest_protected
    explain_protected l = rw (reached, any_lowest p at (stored_of op), lt-ltb _ _ l, legal)

    module _ (free : at + stored_of op ≤ lowest (is_protected p) at (stored_of op)) where
      abbrev number : ℕ
      number = (stepped (attempt_deck o) attempt_protect 0 (attempt_machine g.float g.status.mask q.second)).stop

      -- the order is tried
      tried : number ≡ stop_in (effect_of op o g m at)
      tried =
          ap (λ (z : Operands). (stepped (attempt_deck o) attempt_protect 0 (attempt_machine g.float g.status.mask z.second)).stop) (given op o g m at legal q operands).1
          ∙ attempt_stop op o g m at legal h

      pub explain_taken : number ≡ 0 → answer ≡ cause 18 Named.Nothing
      unfolding cause_number named_for
      explain_taken taken = rw (reached, any_lowest p at (stored_of op), le-ltb _ _ free, sym tried ∙ taken)

      pub explain_words : 1 ≤ number → answer ≡ cause number (words_read (gives q))
      explain_words some =
          let n = stop_known Own (effect_of op o g m at) (own_by op o g m at h.goes) (omega (arith, tried)) in
          let low : 8 ≤ number = omega (arith, tried, n.some) in
          let high : number ≤ 11 = omega (arith, tried, n.most) in
          rw (
            reached,
            any_lowest p at (stored_of op),
            le-ltb _ _ free,
            ← tried,
            number_same number (omega arith) high,
            named_words number o g m at p low high,
            operands,
          )

-- 20 and 1 to 3 name nothing, whatever the order is
pub explain_early :
    (o : Order) (g : Registers) (m : List ℕ) (a : ℕ) (p : ProtectList) (seat deck : ℕ) (s other : Status) (used memory journal : ℕ) →
    (let n = entry_stop seat deck p s other used memory journal in (n ≡ 0 → ⊥) → explained n o g m a p ≡ cause n Named.Nothing)
unfolding cause_number named_for
explain_early o g m a p seat deck s other used memory journal =
    entry_number p s other used memory journal (λ n. (n ≡ 0 → ⊥) → explained n o g m a p ≡ cause n Named.Nothing) seat deck
    (λ z. absurd (z refl)) (λ h z. refl) (λ z. refl) (λ z. refl) (λ z. refl)

-- what is answered of a seat k that has registers g
abbrev answered : List ℕ → ProtectList → ℕ → State → List ℕ → List ℕ → Registers → Cause
answered d p k s m j g =
    let o = order_at d g.status.pointer in
    let v =
    checked (entry_in k (length d) p s (length m) (length j))
    (provided (ltb g.status.pointer (length d / 4)) 4 (judged_at o g s.used p m (length j)))
    in
    explained (stop_in v) o g m (address_in o g) p

pub why_as :
    (d : List ℕ) (p : ProtectList) (k : ℕ) (s : State) (m j : List ℕ) (g : Registers) (w : Cause) → g ≡ registers_of k s → w ≡ answered d p k s m j g →
    w ≡ why_of d p k (machine s m j)
unfolding why_of decided
why_as d p k s m j g w h e = e ∙ ap (answered d p k s m j) h
