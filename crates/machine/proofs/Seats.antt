-- The registers of a seat within the state.
use Rattle.std.proofs.Common.{◌≡◌, ℕ, ◌+◌, ◌/◌, Bool, true, false, cond, eqb, ltb, List, length, sym, refl, ap, ◌∙◌, ap₂}
use Rattle.hexfloat.specs.Answer.{Answer, provided, checked}
use Rattle.orders.specs.Order.{order_at}
use Rattle.protection.specs.Form.{ProtectList}
use Rattle.machine.specs.declared.state.Registers.{Registers}
use Rattle.machine.specs.declared.state.State.{State}
use Rattle.machine.specs.declared.state.Status.{Status}
use Rattle.machine.specs.declared.verdict.Effect.{Effect}
use Rattle.machine.specs.Change.{memory_after, registers_after}
use Rattle.machine.specs.Decide.{held_stop, entry_stop, held_in, entry_in, judged_at, pointer_of, decided}
use Rattle.machine.specs.Journal.{encoded, written}
use Rattle.machine.specs.Machine.{machine, before_of, committed}
use Rattle.machine.specs.Run.{steps_of}
use Rattle.machine.specs.Seats.{registers_of, other_of, seated}
use Rattle.machine.specs.Step.{stepped}
use Rattle.machine.proofs.Checks.{held_swap}

-- a test that exchanges two, and then chooses of them, finds the first again
twice_chosen : (b : Bool) (x y : Registers) → cond b (cond b x y) (cond b y x) ≡ x
twice_chosen true x y = refl
twice_chosen false x y = refl

module _ (k : ℕ) (g o : Registers) (used : ℕ) where
  pub registers_seated : registers_of k (seated k g o used) ≡ g
  unfolding registers_of
  registers_seated = twice_chosen (eqb k 0) g o

  pub other_seated : other_of k (seated k g o used) ≡ o
  unfolding other_of
  other_seated = twice_chosen (eqb k 0) o g

  -- checks 2 and 3 look at both seats alike
  pub held_seated : (p : ProtectList) (memory journal : ℕ) → held_in p (seated k g o used) memory journal ≡ held_stop p g.status o.status used memory journal
  held_seated p memory journal = cases (eqb k 0)
    where
      cases : (b : Bool) → held_stop p (cond b g o).status (cond b o g).status used memory journal ≡ held_stop p g.status o.status used memory journal
      cases true = refl
      cases false = held_swap p o.status g.status used memory journal

-- the state of these registers
abbrev both : Registers → Registers → ℕ → State
both x y used = record { seat0 = x; seat1 = y; used = used }

-- a seat's registers and the other's are the state
pub seated_own : (k : ℕ) (s : State) → seated k (registers_of k s) (other_of k s) s.used ≡ s
unfolding registers_of other_of
seated_own k s =
    ap₂ (λ (x y : Registers). both x y s.used) (twice_chosen (eqb k 0) s.seat0 s.seat1) (twice_chosen (eqb k 0) s.seat1 s.seat0)

-- what checks 2 and 3 say of a state, they say of a seat and the other
pub held_own : (k : ℕ) (s : State) (p : ProtectList) (memory journal : ℕ) → held_in p s memory journal ≡ held_stop p (registers_of k s).status (other_of k s).status s.used memory journal
held_own k s p memory journal =
    ap (λ (z : State). held_in p z memory journal) (sym (seated_own k s)) ∙ held_seated k (registers_of k s) (other_of k s) s.used p memory journal

-- what is decided of a step of seat k by its registers and the other seat's status
abbrev pub decided_of : List ℕ → ProtectList → ℕ → Registers → Status → ℕ → List ℕ → ℕ → Answer Effect
decided_of d p k g other used m journal =
    checked (entry_stop k (length d) p g.status other used (length m) journal)
    (provided (ltb g.status.pointer (length d / 4)) 4 (judged_at (order_at d g.status.pointer) g used p m journal))

-- nothing else of the other seat is looked at
module _ (d : List ℕ) (p : ProtectList) (k : ℕ) (s : State) (m : List ℕ) (journal : ℕ) where
  pub entry_own : entry_in k (length d) p s (length m) journal ≡ entry_stop k (length d) p (registers_of k s).status (other_of k s).status s.used (length m) journal
  unfolding entry_stop
  entry_own = rw (held_own k s p (length m) journal)

  pub decided_own : decided d p k s m journal ≡ decided_of d p k (registers_of k s) (other_of k s).status s.used m journal
  unfolding decided
  decided_own =
      ap (λ (n : ℕ). checked n (provided (ltb (pointer_of k s) (length d / 4)) 4 (judged_at (order_at d (pointer_of k s)) (registers_of k s) s.used p m journal))) entry_own

-- so it may be decided of a state in parts
pub decided_as :
    (d : List ℕ) (p : ProtectList) (k : ℕ) (g o : Registers) (used : ℕ) (m : List ℕ) (journal : ℕ) (v : Answer Effect) (other : Status) → o.status ≡ other →
    v ≡ decided_of d p k g other used m journal → v ≡ decided d p k (seated k g o used) m journal
decided_as d p k g o used m journal v other h e =
    e
    ∙ ap (λ (t : Status). decided_of d p k g t used m journal) (sym h)
    ∙ ap (λ (r : Registers). decided_of d p k g r.status used m journal) (sym (other_seated k g o used))
    ∙ ap (λ (r : Registers). decided_of d p k r (other_of k (seated k g o used)).status used m journal) (sym (registers_seated k g o used))
    ∙ sym (decided_own d p k (seated k g o used) m journal)

-- and what a step makes of it
pub committed-seated :
    (k : ℕ) (g o : Registers) (used : ℕ) (m j : List ℕ) (e : Effect) →
    machine (seated k (registers_after e g) o (used + 1)) (memory_after e.change m) (written j used (encoded k (before_of g m e))) ≡
    committed k e (machine (seated k g o used) m j)
committed-seated k g o used m j e = rw (registers_seated k g o used, other_seated k g o used)

-- calls from the parts of a state are calls from it
module _ (d : List ℕ) (p : ProtectList) (k : ℕ) (s : State) (m j : List ℕ) (g o : Registers) (hg : g ≡ registers_of k s) (ho : o ≡ other_of k s) where
  parts : machine (seated k g o s.used) m j ≡ machine s m j
  parts = rw (hg, ho, seated_own k s)

  pub steps_seated : (limit : ℕ) → steps_of d p k limit (machine (seated k g o s.used) m j) ≡ steps_of d p k limit (machine s m j)
  steps_seated limit = ap (steps_of d p k limit) parts

  pub stepped_seated : stepped d p k (machine (seated k g o s.used) m j) ≡ stepped d p k (machine s m j)
  stepped_seated = ap (stepped d p k) parts
