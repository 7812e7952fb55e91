-- A step that a seat takes is a step of a path, by where its effect leaves the pointer and the selector.
use Prim.Native.Nat.{ℕ, ◌+◌}
use mathlib.Core.Path.{◌≡◌, refl, sym, ap₂, subst, ◌∙◌}
use mathlib.Core.List.{List, [], ◌∷◌, Memᴰ}
use mathlib.Core.Logic.{⊎_elim}
use mathlib.Core.Bool.{cond}
use lib.ListN.{length}
use Rattle.hexfloat.specs.Answer.{Answer, gives, stops}
use Rattle.orders.specs.declared.order.Order.{Order}
use Rattle.orders.specs.declared.order.Verb.{Verb}
use Rattle.orders.specs.Order.{is_halt, is_jump}
use Rattle.protection.specs.Form.{ProtectList}
use Rattle.machine.specs.declared.state.Registers.{Registers}
use Rattle.machine.specs.declared.verdict.Effect.{Effect}
use Rattle.machine.specs.Machine.{Machine, committed}
use Rattle.machine.specs.Seats.{registers_of}
use Rattle.machine.specs.Step.{Outcome, outcome, onward, next_order, verdict_of, stepped}
use Rattle.machine.proofs.Decided.{decided_taken}
use Rattle.conditions.proofs.Decisions.{registers_after_lem}
use Rattle.conditions.proofs.Leaves.{stop_number}
use Rattle.conditions.proofs.Onward.{Led, taken_led, decided_inside}
use Rattle.unset.specs.declared.path.Point.{Point}
use Rattle.unset.specs.Path.{point, selector_after, nexts, Leads}
use Rattle.unset.specs.Theorems.{point_of}
use Rattle.unset.proofs.Points.{may_jump_lem}

-- where an order is met, and the points after it
abbrev here : Registers → Point
here g = point g.status.pointer g.status.selector

abbrev ways : Verb → Order → Registers → List Point
ways v o g =
    cond (is_halt v) [] (point ((here g).order + 1) (selector_after v o (here g).selector) ∷ cond (is_jump v) (point o.at (here g).selector ∷ []) [])

-- an effect leads to one of them
led_way : (v : Verb) (o : Order) (g : Registers) (e : Effect) → Led v o g e → Memᴰ (point e.status.pointer e.status.selector) (ways v o g)
led_way v o g e l =
    rw l.goes
    (⊎_elim
    (λ on. Memᴰ.head (ap₂ point on l.selector))
    (λ away.
    let kept : e.status.selector ≡ (here g).selector = l.selector ∙ rw away.1 in
    Memᴰ.tail (rw away.0 (Memᴰ.head (ap₂ point away.2 kept))))
    l.pointer)

module _ (d : List ℕ) (p : ProtectList) (seat : ℕ) (x : Machine) where
  abbrev g : Registers
  g = registers_of seat x.state

  pub taken_leads : (e : Effect) → verdict_of d p seat x ≡ gives e → Leads d (point_of seat x) (point_of seat (committed seat e x))
  unfolding nexts
  taken_leads e h =
      let t = decided_taken d p seat x.state x.memory (length x.journal) e h in
      let op = t.operation in
      record {
        here = record { operation = op; inside = decided_inside d p seat x.state x.memory (length x.journal) e h; legal = t.legal };
        onward =
            rw (may_jump_lem op.verb (next_order d seat x))
            (subst (λ (r : Registers). Memᴰ (point r.status.pointer r.status.selector) (ways op.verb (next_order d seat x) g)) (sym (registers_after_lem seat e x))
            (led_way op.verb (next_order d seat x) g e (taken_led d p seat x.state x.memory (length x.journal) e t)));
      }

  pub along : (stepped d p seat x).stop ≡ 0 → Leads d (point_of seat x) (point_of seat (stepped d p seat x).after)
  unfolding stepped
  along z = cases (verdict_of d p seat x) refl z
    where
      after : Answer Effect → Outcome Machine
      after v = onward v x (λ e. committed seat e x) (λ y. outcome y 0 0)

      cases : (v : Answer Effect) → verdict_of d p seat x ≡ v → (after v).stop ≡ 0 → Leads d (point_of seat x) (point_of seat (after v).after)
      cases (stops n) t z = absurd (stop_number d p seat x n t z)
      cases (gives e) t z = taken_leads e t
