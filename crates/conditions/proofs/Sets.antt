-- A step leaves the set of general registers that is not selected, and only SET changes the selector.
use Prim.Native.Nat.{ℕ, ◌≤◌}
use mathlib.Core.Path.{◌≡◌, refl, sym, subst, ◌∙◌}
use mathlib.Core.List.{List}
use mathlib.Core.Bool.{Bool, true, false, cond, ◌&&◌}
use lib.Dec.{eqb, leb}
use lib.ListN.{length, get_or, set}
use lib.Seq.{get_or-set_other}
use native.Mathlib.Omega.{arith}
use borrow.Author.Tests.{leb-true, ne_eqb}
use Rattle.hexfloat.specs.Answer.{Answer, gives, stops}
use Rattle.orders.specs.General.{general_cell, general_at}
use Rattle.orders.specs.Order.{rows, order_at, is_select}
use Rattle.orders.proofs.Table.{all_rows}
use Rattle.protection.specs.Form.{ProtectList}
use Rattle.machine.specs.declared.change.Change.{Change}
use Rattle.machine.specs.declared.state.Registers.{Registers}
use Rattle.machine.specs.declared.state.State.{State}
use Rattle.machine.specs.declared.verdict.Effect.{Effect}
use Rattle.machine.specs.Change.{registered, general_after}
use Rattle.machine.specs.Decide.{pointer_of, decided}
use Rattle.machine.specs.Machine.{Machine, committed}
use Rattle.machine.specs.Seats.{registers_of}
use Rattle.machine.specs.Step.{outcome, onward, verdict_of, stepped}
use Rattle.machine.proofs.Decided.{Taken, decided_taken}
use Rattle.conditions.specs.Theorems.{OneSetAfter, OneSet}
use Rattle.conditions.proofs.Decisions.{registers_after_lem}
use Rattle.conditions.proofs.Onward.{only, other_verb, taken_led}

-- no other row than that of code 35 has its verb
abbrev set_code : ℕ → Bool
set_code code = eqb code 35

rows-set : all_rows (only (λ v. is_select v) set_code) rows 1 ≡ true
unfolding all_rows only
rows-set = refl

decided_selector :
    (d : List ℕ) (p : ProtectList) (k : ℕ) (s : State) (m : List ℕ) (journal : ℕ) (e : Effect) →
    decided d p k s m journal ≡ gives e → ((order_at d (pointer_of k s)).code ≡ 35 → ⊥) → e.status.selector ≡ (registers_of k s).status.selector
decided_selector d p k s m journal e h other =
    let t = decided_taken d p k s m journal e h in
    let o = order_at d (pointer_of k s) in
    let none : is_select t.operation.verb ≡ false = other_verb (λ v. is_select v) set_code rows-set o t.operation t.legal (ne_eqb o.code 35 other) in
    (taken_led d p k s m journal e t).selector ∙ rw none

-- a change of register q of set s, seen from another register or set
pub other_general :
    (n : List ℕ) (s q w t r : ℕ) → q ≤ 7 → (t ≡ s → r ≡ q → ⊥) → general_at (set n (general_cell s q) w) t r ≡ general_at n t r
unfolding general_at
other_general n s q w t r few k = cases (leb t 1) (leb r 7) refl
  where
    cases :
        (a b : Bool) → leb r 7 ≡ b →
        cond (a && b) (get_or (set n (general_cell s q) w) (general_cell t r) 0) 0 ≡ cond (a && b) (get_or n (general_cell t r) 0) 0
    cases true true e =
        let low = leb-true r 7 e in
        get_or-set_other n (general_cell s q) (general_cell t r) w 0 (λ z. k (omega arith) (omega arith))
    cases true false e = refl
    cases false b e = refl

-- a change in set s, seen from another
other_set :
    (ch : Change) (n : List ℕ) (s t r : ℕ) → registered ch ≡ true → (t ≡ s → ⊥) → general_at (general_after ch n s) t r ≡ general_at n t r
unfolding general_after registered
other_set Change.Nothing n s t r h k = refl
other_set (Change.Float q w) n s t r h k = refl
other_set (Change.Pair q x y) n s t r h k = refl
other_set (Change.General q w) n s t r h k = other_general n s q w t r (leb-true q 7 h) (λ z u. k z)
other_set (Change.Two a w) n s t r h k = refl
other_set (Change.Four a x y) n s t r h k = refl

pub one_set : (d : List ℕ) (p : ProtectList) (k : ℕ) (x : Machine) → OneSet d p k x
unfolding stepped
one_set d p k x = cases (verdict_of d p k x) refl
  where
    g : Registers
    g = registers_of k x.state

    after : Answer Effect → Registers
    after v = registers_of k (onward v x (λ e. committed k e x) (λ y. outcome y 0 0)).after.state

    taken : (e : Effect) → verdict_of d p k x ≡ gives e → Taken d p k x.state x.memory (length x.journal) e
    taken e h = decided_taken d p k x.state x.memory (length x.journal) e h

    cases : (v : Answer Effect) → verdict_of d p k x ≡ v → OneSetAfter d k x (after v)
    cases (stops n) h = record { other = λ s r z. refl; selector = λ z. refl }
    cases (gives e) h =
        subst (OneSetAfter d k x) (sym (registers_after_lem k e x))
        (record {
          other = λ s r z.
              rw ((taken e h).fine.general g.general)
              (other_set e.change g.general g.status.selector s r (taken e h).fine.registers z);
          selector = λ z. decided_selector d p k x.state x.memory (length x.journal) e h z;
        })
