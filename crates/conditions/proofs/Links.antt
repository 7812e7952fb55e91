-- The link of a step: a back step of the journal as it stands leads from the entry after it to the entry before it, and a step leads forward again.
use Prim.Native.Nat.{ℕ, ◌+◌, ◌-◌, ◌*◌, ◌<◌, ◌≤◌}
use mathlib.Core.Path.{◌≡◌, refl, ap, ◌∙◌}
use mathlib.Core.List.{List, [], ◌∷◌}
use lib.ListN.{length, get_or}
use native.Mathlib.Omega.{arith}
use borrow.Author.Tests.{ne_eqb}
use Rattle.hexfloat.specs.Answer.{gives}
use Rattle.protection.specs.Form.{ProtectList}
use Rattle.machine.specs.declared.state.Registers.{Registers}
use Rattle.machine.specs.declared.state.State.{State}
use Rattle.machine.specs.declared.verdict.Effect.{Effect}
use Rattle.machine.specs.Back.{allowed, returning, last_seat, undone, backed}
use Rattle.machine.specs.Change.{memory_after, registers_after}
use Rattle.machine.specs.Decide.{held_in, decided}
use Rattle.machine.specs.Journal.{record_at, encoded, decoded, seat_in}
use Rattle.machine.specs.Machine.{Machine, machine, state_after, before_of, committed}
use Rattle.machine.specs.Seats.{registers_of, other_of, seated}
use Rattle.conditions.specs.Trail.{Entry, entry, Earlier, earlier, entry_after}
use Rattle.conditions.specs.Theorems.{whole_of}
use Rattle.machine.proofs.Decided.{Taken, decided_taken}
use Rattle.machine.proofs.Seats.{registers_seated, other_seated, seated_own}
use Rattle.conditions.proofs.Decisions.{held_after}
use Rattle.conditions.proofs.Records.{written-length, written_other, written_same, record_agrees, decoded-encoded}
use Rattle.conditions.proofs.Restore.{Halfwords, float_back, general_back, memory_back, registered_old, placed_old, guarded_old, memory_length, memory_halfwords}

-- an effect put back into seat k
abbrev pub put_back : ℕ → Effect → Entry → Entry
put_back k e x = entry (state_after k e (x.state.used - 1) x.state) (memory_after e.change x.memory)

-- what the types give of an entry
pub record Kept (x : Entry) : Type 0 where
  pub halfwords : Halfwords x.memory

module _ (d : List ℕ) (p : ProtectList) (journal : ℕ) where
  -- x after y, by a step of seat k
  pub record Link (j : List ℕ) (x : Entry) (k : ℕ) (y : Entry) : Type 0 where
    pub old : Effect
    pub returns : returning p x.state (length x.memory) j ≡ gives old
    pub whose : last_seat x.state j ≡ k
    pub leads : put_back k old x ≡ y
    pub used : x.state.used ≡ y.state.used + 1
    pub new : Effect
    pub taken : decided d p k y.state y.memory journal ≡ gives new
    pub advances : entry_after k new y ≡ x

  -- each earlier entry, the latest first, is linked to the one after it
  unfoldable pub Walk : List ℕ → Entry → List Earlier → Type 0
  Walk j x [] = Unit {0}
  Walk j x (y ∷ ys) = Link j x y.seat y.entry × Kept y.entry × Walk j y.entry ys

  -- a back step reads nothing at or past its used count
  module _ (s : State) (n : ℕ) (j l : List ℕ) (e : length l ≡ length j) (some : 1 ≤ s.used) (h : (i : ℕ) → i < s.used * 4 → get_or l i 0 ≡ get_or j i 0) where
    last_agrees : record_at l (s.used - 1) ≡ record_at j (s.used - 1)
    last_agrees = record_agrees j l (s.used - 1) (λ i b. h i (omega arith))

    returning_agrees : returning p s n l ≡ returning p s n j
    unfolding returning
    returning_agrees = rw (e, last_agrees)

  pub walk_agrees :
      (j l : List ℕ) → length l ≡ length j → (x : Entry) (ys : List Earlier) → ((i : ℕ) → i < x.state.used * 4 → get_or l i 0 ≡ get_or j i 0) →
      Walk j x ys → Walk l x ys
  unfolding Walk
  walk_agrees j l e x [] h w = tt
  walk_agrees j l e x (y ∷ ys) h w =
      let k = w.0 in
      let some : 1 ≤ x.state.used = omega (arith, k.used) in (
        record {
          old = k.old;
          returns = returning_agrees x.state (length x.memory) j l e some h ∙ k.returns;
          whose = ap seat_in (last_agrees x.state (length x.memory) j l e some h) ∙ k.whose;
          leads = k.leads;
          used = k.used;
          new = k.new;
          taken = k.taken;
          advances = k.advances;
        },
        w.1,
        walk_agrees j l e y.entry ys (λ i b. h i (omega (arith, k.used))) w.2,
      )

  module _ (x : Machine) (size : length x.journal ≡ journal) (kept : Kept (whole_of x))
      (k : ℕ) (e : Effect) (taken : decided d p k x.state x.memory journal ≡ gives e) where
    facts : Taken d p k x.state x.memory journal e
    facts = decided_taken d p k x.state x.memory journal e taken

    -- the registers of the seat
    abbrev g : Registers
    g = registers_of k x.state

    abbrev o : Registers
    o = other_of k x.state

    -- what the record says
    abbrev before : Effect
    before = before_of g x.memory e

    still_held : held_in p (committed k e x).state (length (committed k e x).memory) (length (committed k e x).journal) ≡ 0
    still_held =
        rw (memory_length e.change x.memory, written-length x.journal x.state.used (encoded k before), size)
        (held_after d p k x.state x.memory journal e facts)

    pub saved_new : record_at (committed k e x).journal x.state.used ≡ encoded k before
    saved_new = written_same x.journal x.state.used (encoded k before) (omega (arith, facts.room, size))

    reread : (decoded (record_at (committed k e x).journal x.state.used) ≡ gives before) × (seat_in (record_at (committed k e x).journal x.state.used) ≡ k)
    reread =
        rw saved_new
        (decoded-encoded k facts.seat before (record {
          condition = facts.held.own.condition;
          mask = facts.held.own.mask;
          selector = facts.held.own.selector;
          pointer = facts.pointer;
          registers = registered_old g x.memory e.change ∙ facts.fine.registers;
        }))

    allows : allowed before p (length (committed k e x).memory) ≡ gives before
    unfolding allowed
    allows =
        rw (
          memory_length e.change x.memory,
          placed_old g x.memory (length x.memory) e.change,
          facts.fine.there,
          guarded_old g x.memory p e.change,
          facts.fine.free,
        )

    -- the record that a back step reads
    one : x.state.used + 1 - 1 ≡ x.state.used
    one = omega arith

    returns_before : returning p (committed k e x).state (length (committed k e x).memory) (committed k e x).journal ≡ gives before
    unfolding returning
    returns_before = rw (still_held, ne_eqb (x.state.used + 1) 0 (λ z. omega arith), one, reread.0) allows

    whose_before : last_seat (committed k e x).state (committed k e x).journal ≡ k
    whose_before = ap (λ (n : ℕ). seat_in (record_at (committed k e x).journal n)) one ∙ reread.1

    registers_back : registers_after before (registers_after e g) ≡ g
    registers_back =
        rw (
          float_back g x.memory e.change,
          facts.fine.general g.general,
          general_back g x.memory e.change facts.fine.registers facts.held.own.selector,
        )

    state_back : state_after k before (x.state.used + 1 - 1) (committed k e x).state ≡ x.state
    state_back =
        ap (λ (r : Registers). seated k (registers_after before r) (other_of k (committed k e x).state) (x.state.used + 1 - 1)) (registers_seated k (registers_after e g) o (x.state.used + 1))
        ∙ ap (λ (r : Registers). seated k (registers_after before (registers_after e g)) r (x.state.used + 1 - 1)) (other_seated k (registers_after e g) o (x.state.used + 1))
        ∙ ap (λ (r : Registers). seated k r o (x.state.used + 1 - 1)) registers_back
        ∙ ap (seated k g o) one
        ∙ seated_own k x.state

    back_again : put_back k before (whole_of (committed k e x)) ≡ whole_of x
    back_again =
        ap (λ (s : State). entry s (memory_after before.change (memory_after e.change x.memory))) state_back
        ∙ ap (entry x.state) (memory_back g x.memory kept.halfwords e.change)

    pub link_new : Link (committed k e x).journal (whole_of (committed k e x)) k (whole_of x)
    link_new = record {
      old = before;
      returns = returns_before;
      whose = whose_before;
      leads = back_again;
      used = refl;
      new = e;
      taken = taken;
      advances = refl;
    }

    -- and the back step itself
    pub back_new : backed p (committed k e x) ≡ undone (machine x.state x.memory (committed k e x).journal) k
    unfolding backed
    back_new = rw (returns_before, whose_before) (ap (λ (y : Entry). undone (machine y.state y.memory (committed k e x).journal) k) back_again)

    pub kept_new : Kept (whole_of (committed k e x))
    kept_new = record { halfwords = memory_halfwords e.change x.memory kept.halfwords }

    pub size_new : length (committed k e x).journal ≡ journal
    size_new = written-length x.journal x.state.used (encoded k before) ∙ size

    -- the earlier links stand: the record is written past what they read
    pub walk_new :
        (ys : List Earlier) → Walk x.journal (whole_of x) ys → Walk (committed k e x).journal (whole_of (committed k e x)) (earlier k (whole_of x) ∷ ys)
    unfolding Walk
    walk_new ys w = (
      link_new,
      kept,
      walk_agrees x.journal (committed k e x).journal (written-length x.journal x.state.used (encoded k before)) (whole_of x) ys
          (λ i b. written_other x.journal x.state.used (encoded k before) i (λ z. omega arith)) w,
    )
