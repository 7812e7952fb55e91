-- A seat whose steps touch only memory that the other's steps never store to stands where its steps alone leave it.
use Prim.Native.Nat.{ℕ, suc, ◌+◌, ◌/◌, ◌<◌, ◌≤◌}
use mathlib.Core.Path.{◌≡◌, refl, sym, ap, subst, ◌∙◌}
use mathlib.Core.List.{List, [], ◌∷◌, ◌++◌, Memᴰ}
use mathlib.Core.Bool.{Bool, true, false, cond}
use lib.Dec.{eqb, leb, ltb}
use lib.ListN.{length, get_or, replicate}
use native.Mathlib.Omega.{arith}
use borrow.Author.Tests.{eqb-true, eqb-false, lt-ltb, le-leb}
use Rattle.hexfloat.specs.Answer.{gives}
use Rattle.orders.specs.Order.{stored_of}
use Rattle.protection.specs.Form.{ProtectList}
use Rattle.machine.specs.declared.state.Registers.{Registers}
use Rattle.machine.specs.declared.state.Status.{Status}
use Rattle.machine.specs.declared.verdict.Effect.{Effect}
use Rattle.machine.specs.Change.{registers_after}
use Rattle.machine.specs.Check.{deck_sized}
use Rattle.machine.specs.Decide.{held_stop, entry_stop, held_in, entry_in, decided}
use Rattle.machine.specs.Journal.{encoded}
use Rattle.machine.specs.Machine.{Machine, machine, before_of, committed}
use Rattle.machine.specs.Run.{entry_of}
use Rattle.machine.specs.Seats.{registers_of, other_of}
use Rattle.machine.specs.Step.{Outcome, outcome, verdict_of, stepped}
use Rattle.machine.proofs.Decided.{Taken, decided_taken}
use Rattle.conditions.specs.Apart.{Touches, StoresTo, Reached, Apart, taken_by}
use Rattle.conditions.specs.Trail.{Call, step, Entry, Earlier, entry_after, called, Reply, reply_of, standing, replies}
use Rattle.conditions.specs.Theorems.{Typed, whole_of, machine_after, standing_after, steps_by, times, answer, Included, StartsAs, AsAlone}
use Rattle.conditions.proofs.Calls.{steps_taken, snoc, times_last, times_reply}
use Rattle.machine.proofs.Seats.{decided_of, entry_own, decided_own}
use Rattle.conditions.proofs.Decisions.{held_after, registers_after_lem}
use Rattle.conditions.proofs.Entries.{first}
use Rattle.conditions.proofs.Links.{Walk}
use Rattle.conditions.proofs.Others.{effect_leaves}
use Rattle.conditions.proofs.Records.{written-length}
use Rattle.conditions.proofs.Restore.{memory_length}
use Rattle.conditions.proofs.Touch.{decided_agrees, memory_alike, taken_clear}
use Rattle.conditions.proofs.Trail.{from, begun}

-- checks 20 and 1 pass again
entry_again :
    (k deck : ℕ) (p : ProtectList) (s t s' t' : Status) (u v m n i j : ℕ) → entry_stop k deck p s t u m i ≡ 0 → held_stop p s' t' v n j ≡ 0 → entry_stop k deck p s' t' v n j ≡ 0
unfolding entry_stop
entry_again k deck p s t s' t' u v m n i j e h = cases (leb k 1) (deck_sized deck) (held_stop p s t u m i) (held_stop p s' t' v n j) e h
  where
    cases : (a b : Bool) (x y : ℕ) → cond a (cond b x 1) 20 ≡ 0 → y ≡ 0 → cond a (cond b y 1) 20 ≡ 0
    cases true true x y e h = h
    cases true false x y e h = absurd (omega arith)
    cases false b x y e h = absurd (omega arith)

module _ (d : List ℕ) (p : ProtectList) (journal k : ℕ) (seat : k ≤ 1) (all : List Earlier) (apart : Apart d k all) (start : Machine)
    (room : 0 < taken_by k all → start.state.used + taken_by k all ≤ length start.journal / 4) where
  -- a halfword to which no step of another seat stored
  abbrev Free : ℕ → Type 0
  Free a = (j : ℕ) → (j ≡ k → ⊥) → Reached stored_of d j all a → ⊥

  -- the entry x beside z, where n steps of seat k alone lead
  record Beside (x : Entry) (n : ℕ) (z : Machine) : Type 0 where
    registers : registers_of k x.state ≡ registers_of k z.state
    size : length x.memory ≡ length z.memory
    memory : (a : ℕ) → Free a → get_or x.memory a 0 ≡ get_or z.memory a 0
    checks : 0 < taken_by k all → entry_of d p k z ≡ 0
    used : z.state.used ≡ start.state.used + n
    words : length z.journal ≡ length start.journal
    taken : replies (called d p) (replicate n (step k)) start ≡ steps_taken n

  -- what n steps of seat k alone lead to
  abbrev alone : ℕ → Machine
  alone n = times d p n (step k) start

  -- a step of another seat: seat k has its registers, and memory has what it had where none of those stored
  other_step :
      (j : ℕ) → (j ≡ k → ⊥) → (x : Entry) (n : ℕ) (z : Machine) (e : Effect) → Beside x n z → decided d p j x.state x.memory journal ≡ gives e →
      ((a : ℕ) → Free a → StoresTo d j x.state a → ⊥) → Beside (entry_after j e x) n z
  other_step j not x n z e b h clear =
      let t = decided_taken d p j x.state x.memory journal e h in
      record {
        registers = effect_leaves j k t.seat seat (λ s. not (sym s)) e (x.state.used + 1) x.state ∙ b.registers;
        size = memory_length e.change x.memory ∙ b.size;
        memory = λ a f. taken_clear d p j (machine x.state x.memory []) journal e t a (clear a f) ∙ b.memory a f;
        checks = b.checks;
        used = b.used;
        words = b.words;
        taken = b.taken;
      }

  -- a step of seat k, and one more of its steps alone
  module _ (x : Entry) (n : ℕ) (b : Beside x n (alone n)) (more : n < taken_by k all) (e : Effect) (h : decided d p k x.state x.memory journal ≡ gives e)
      (free : (a : ℕ) → Touches d k x.state a → Free a) where
    abbrev g : Registers
    g = registers_of k x.state

    t : Taken d p k x.state x.memory journal e
    t = decided_taken d p k x.state x.memory journal e h

    entry_here : entry_of d p k (alone n) ≡ 0
    entry_here = b.checks (omega arith)

    entries_same :
        entry_stop k (length d) p g.status (other_of k x.state).status x.state.used (length x.memory) journal
        ≡ entry_stop k (length d) p g.status (other_of k (alone n).state).status (alone n).state.used (length (alone n).memory) (length (alone n).journal)
    entries_same =
        sym (entry_own d p k x.state x.memory journal) ∙ t.entry ∙ sym entry_here
        ∙ entry_own d p k (alone n).state (alone n).memory (length (alone n).journal)
        ∙ ap (λ (r : Registers). entry_stop k (length d) p r.status (other_of k (alone n).state).status (alone n).state.used (length (alone n).memory) (length (alone n).journal)) (sym b.registers)

    rooms_same : ltb x.state.used (journal / 4) ≡ ltb (alone n).state.used (length (alone n).journal / 4)
    rooms_same =
        lt-ltb x.state.used (journal / 4) t.room
        ∙ sym (lt-ltb (alone n).state.used (length (alone n).journal / 4) (rw b.words (omega (arith, b.used, room (omega arith)))))

    decides : verdict_of d p k (alone n) ≡ gives e
    decides =
        decided_own d p k (alone n).state (alone n).memory (length (alone n).journal)
        ∙ ap (λ (r : Registers). decided_of d p k r (other_of k (alone n).state).status (alone n).state.used (alone n).memory (length (alone n).journal)) (sym b.registers)
        ∙ sym (decided_agrees d p k g (other_of k x.state).status (other_of k (alone n).state).status x.state.used (alone n).state.used x.memory (alone n).memory
        journal (length (alone n).journal) entries_same rooms_same b.size
        (λ op legal i l u. b.memory i (free i (record { operation = op; legal = legal; from = l; below = u }))))
        ∙ sym (decided_own d p k x.state x.memory journal)
        ∙ h

    steps : called d p (step k) (alone n) ≡ outcome (committed k e (alone n)) 1 0
    unfolding called stepped
    steps = rw decides

    stands : alone (suc n) ≡ committed k e (alone n)
    stands = times_last (called d p) (step k) n start ∙ ap (λ (r : Outcome Machine). r.after) steps

    held_there : held_in p (committed k e (alone n)).state (length (committed k e (alone n)).memory) (length (committed k e (alone n)).journal) ≡ 0
    held_there =
        rw (memory_length e.change (alone n).memory, written-length (alone n).journal (alone n).state.used (encoded k (before_of (registers_of k (alone n).state) (alone n).memory e)))
        (held_after d p k (alone n).state (alone n).memory (length (alone n).journal) e (decided_taken d p k (alone n).state (alone n).memory (length (alone n).journal) e decides))

    answered : replies (called d p) (replicate (suc n) (step k)) start ≡ steps_taken (suc n)
    answered =
        times_reply (called d p) (step k) n start
        ∙ ap (λ (l : List Reply). l ++ (reply_of (called d p (step k) (alone n)) ∷ [])) b.taken
        ∙ ap (λ (r : Outcome Machine). steps_taken n ++ (reply_of r ∷ [])) steps
        ∙ sym (snoc (answer 1 0) n)

    own_step : Beside (entry_after k e x) (suc n) (alone (suc n))
    own_step = subst (Beside (entry_after k e x) (suc n)) (sym stands) (record {
      registers =
          registers_after_lem k e (machine x.state x.memory []) ∙ ap (registers_after e) b.registers ∙ sym (registers_after_lem k e (alone n));
      size = memory_length e.change x.memory ∙ b.size ∙ sym (memory_length e.change (alone n).memory);
      memory = λ a f. memory_alike e.change x.memory (alone n).memory b.size a (b.memory a f);
      checks = λ some. entry_again k (length d) p _ _ _ _ _ _ _ _ _ _ entry_here held_there;
      used = omega (arith, b.used);
      words = written-length (alone n).journal (alone n).state.used (encoded k (before_of (registers_of k (alone n).state) (alone n).memory e)) ∙ b.words;
      taken = answered;
    })

  -- along the steps that stand
  along :
      (j : List ℕ) (x : Entry) (es : List Earlier) → Walk d p journal j x es → ((s : Earlier) → Memᴰ s es → Memᴰ s all) → taken_by k es ≤ taken_by k all →
      Beside (first x es) 0 (alone 0) → Beside x (taken_by k es) (alone (taken_by k es))
  unfolding Walk first taken_by
  along j x [] w within few b = b
  along j x (e ∷ es) w within few b = cases (λ less. along j e.entry es w.2 (λ s m. within s (Memᴰ.tail m)) less b) (eqb e.seat k) refl few
    where
      here : Memᴰ e all
      here = within e (Memᴰ.head refl)

      cases :
          (taken_by k es ≤ taken_by k all → Beside e.entry (taken_by k es) (alone (taken_by k es))) → (own : Bool) → eqb e.seat k ≡ own → cond own 1 0 + taken_by k es ≤ taken_by k all →
          Beside x (cond own 1 0 + taken_by k es) (alone (cond own 1 0 + taken_by k es))
      cases before true q less =
          let same : e.seat ≡ k = eqb-true e.seat k q in
          let taken = subst (λ (i : ℕ). decided d p i e.entry.state e.entry.memory journal ≡ gives w.0.new) same w.0.taken in
          let led : entry_after k w.0.new e.entry ≡ x = subst (λ (i : ℕ). entry_after i w.0.new e.entry ≡ x) same w.0.advances in
          let one : suc (taken_by k es) ≡ 1 + taken_by k es = omega arith in
          subst (λ (i : ℕ). Beside x i (alone i)) one
          (subst (λ (y : Entry). Beside y (suc (taken_by k es)) (alone (suc (taken_by k es)))) led
          (own_step e.entry (taken_by k es) (before (omega arith)) (omega arith) w.0.new taken
          (λ a touch i not stored. apart i a not (record { step = e; stands = here; seat = same; reaches = touch }) stored)))
      cases before false q less =
          let not : e.seat ≡ k → ⊥ = eqb-false e.seat k q in
          let none : taken_by k es ≡ 0 + taken_by k es = omega arith in
          subst (λ (i : ℕ). Beside x i (alone i)) none
          (subst (λ (y : Entry). Beside y (taken_by k es) (alone (taken_by k es))) w.0.advances
          (other_step e.seat not e.entry (taken_by k es) (alone (taken_by k es)) w.0.new (before (omega arith)) w.0.taken
          (λ a free stores. free e.seat not (record { step = e; stands = here; seat = refl; reaches = stores }))))

-- of the steps that stand no more are seat k's than there are
few_taken : (k : ℕ) (es : List Earlier) → taken_by k es ≤ length es
unfolding taken_by
few_taken k [] = omega arith
few_taken k (e ∷ es) = cases (eqb e.seat k) (few_taken k es)
  where
    cases : (b : Bool) → taken_by k es ≤ length es → cond b 1 0 + taken_by k es ≤ suc (length es)
    cases true h = omega arith
    cases false h = omega arith

-- the checks that a step of either seat passed
entry_seat : (j k deck : ℕ) (p : ProtectList) (s t : Status) (u m i : ℕ) → k ≤ 1 → entry_stop j deck p s t u m i ≡ 0 → entry_stop k deck p s t u m i ≡ 0
unfolding entry_stop
entry_seat j k deck p s t u m i h e = rw (le-leb k 1 h) (cases (leb j 1) (cond (deck_sized deck) (held_stop p s t u m i) 1) e)
  where
    cases : (a : Bool) (x : ℕ) → cond a x 20 ≡ 0 → x ≡ 0
    cases true x e = e
    cases false x e = absurd (omega arith)

module _ (d : List ℕ) (p : ProtectList) (journal k : ℕ) (seat : k ≤ 1) where
  -- where a step stands, the start passed them
  start_enters :
      (j : List ℕ) (x : Entry) (es : List Earlier) → Walk d p journal j x es → 0 < length es →
      entry_in k (length d) p (first x es).state (length (first x es).memory) journal ≡ 0
  unfolding Walk first
  start_enters j x [] w h = absurd (omega arith)
  start_enters j x (e ∷ []) w h =
      let s = e.entry.state in
      entry_seat e.seat k (length d) p s.seat0.status s.seat1.status s.used (length e.entry.memory) journal seat
      (decided_taken d p e.seat s e.entry.memory journal w.0.new w.0.taken).entry
  start_enters j x (e ∷ f ∷ es) w h = start_enters j e.entry (f ∷ es) w.2 (omega arith)

  -- and the journal had room for all
  last_fits : (j : List ℕ) (x : Entry) (es : List Earlier) → Walk d p journal j x es → 0 < length es → x.state.used ≤ journal / 4
  unfolding Walk
  last_fits j x [] w h = absurd (omega arith)
  last_fits j x (e ∷ es) w h =
      omega (arith, w.0.used, (decided_taken d p e.seat e.entry.state e.entry.memory journal w.0.new w.0.taken).room)

module _ (d : List ℕ) (p : ProtectList) (x : Machine) (cs : List Call) (k : ℕ) (typed : Typed x.memory) (v : Included d p x cs) (seat : k ≤ 1) where
  abbrev es : List Earlier
  es = standing_after d p cs x

  abbrev last : Machine
  last = machine_after d p cs x

  begins : first (whole_of last) es ≡ whole_of x
  begins = ap (λ (e : Entry). first e es) (from d p cs x typed v).last ∙ begun d p cs x typed v

  pub apart_alone : Apart d k es → (y : Machine) → StartsAs d p k x y (steps_by d p cs x k) → AsAlone d p k last y (steps_by d p cs x k)
  unfolding standing replies first
  apart_alone a y s =
      let good = (from d p cs x typed v).good in
      let b = along d p (length x.journal) k seat es a y s.room last.journal (whole_of last) es good.walk (λ e m. m) (omega arith)
      (subst (λ (e : Entry). Beside d p (length x.journal) k seat es a y s.room e 0 y) (sym begins) (record {
        registers = sym s.registers;
        size = ap length (sym s.memory);
        memory = λ i f. ap (λ (m : List ℕ). get_or m i 0) (sym s.memory);
        checks = s.checks;
        used = omega arith;
        words = refl;
        taken = refl;
      })) in
      record { taken = b.taken; registers = b.registers }

  pub starts_as : StartsAs d p k x x (steps_by d p cs x k)
  starts_as =
      let good = (from d p cs x typed v).good in
      let few = few_taken k es in
      record {
        registers = refl;
        memory = refl;
        checks = λ some.
            subst (λ (e : Entry). entry_in k (length d) p e.state (length e.memory) (length x.journal) ≡ 0) begins
            (start_enters d p (length x.journal) k seat last.journal (whole_of last) es good.walk (omega arith));
        room = λ some. omega (arith, good.used, last_fits d p (length x.journal) k seat last.journal (whole_of last) es good.walk (omega arith));
      }
