-- `unset::search::take_up` meets its contract: by the callees, since the order is legal; the stack is in order before each arrival.
-- Assumes nothing.
use Prim.Native.Nat.{◌/◌, ◌≤◌}
use mathlib.Core.Path.{◌≡◌, sym, ap, subst, ◌∙◌}
use native.Mathlib.Omega.{arith}
use Rattle.hexfloat.proofs.Answers.{never}
use Rattle.orders.specs.Legality.{says_legality}
use Rattle.orders.specs.Order.{order_at, legal_of}
use Rattle.unset.specs.Bits.{without}
use Rattle.unset.specs.Path.{nexts}
use Rattle.unset.specs.Search.{word_at, reached, reached_all, Stacked, TakenUp}
use Rattle.unset.proofs.Points.{after_small}
use Rattle.unset.proofs.Sized.{few_cells, few_orders}
use Rattle.unset.proofs.Taken.{Handing, on_stacked, taken_on, taken_either}
use Rattle.unset.proofs.search.take_up.Goals as goal
use Rattle.unset.proofs.search.take_up.Goals.{After-selector_after}

-- the order that was read is that of the place
read_there : (c : After-selector_after) → c.in-Some.l.order ≡ order_at c.args.deck.now (c.args.place / 2)
read_there c = c.in-Some.ensures.same ∙ c.order_at.ensures

-- all that is handed on to the next orders
handing : (c : After-selector_after) → Handing c.args.deck.now c.args.place c.args.search.now c.in-Some.l.operation c.in-Some.l.order c.unwritten_of-bits.result c.selector_after.result
handing c = record {
  legal = ap legal_of (sym (read_there c)) ∙ c.in-Some.l.legal;
  order = read_there c;
  goes = sym c.halts.ensures ∙ c.if-halts.false;
  bits = c.unwritten_of-bits.ensures ∙ ap (without (word_at c.args.search.now c.args.place)) c.written.ensures;
  selector = c.selector_after.ensures;
}

on_small : (c : After-selector_after) → c.selector_after.result ≤ 1
on_small c = rw c.selector_after.ensures (after_small c.in-Some.l.order c.in-Some.l.operation _ c.in-Some.l.legal (omega arith))

pub overflow_cast-orders : goal.overflow_cast-orders
overflow_cast-orders c = record { fits = omega (arith, few_cells _ c.requires.checked.sized) }

pub overflow_cast-order : goal.overflow_cast-order
overflow_cast-order c = record { fits = omega (arith, few_orders _ c.requires.checked, c.requires.inside) }

pub overflow_cast-order-2 : goal.overflow_cast-order-2
overflow_cast-order-2 c = record { fits = omega (arith, few_orders _ c.requires.checked, c.requires.inside) }

pub returns-in_default : goal.returns-in_default
returns-in_default c =
    let p = c.requires in
    let q = p.checked.legal (c.args.place / 2) (omega (arith, p.inside)) in
    never (sym (ap says_legality c.in_default.is) ∙ c.legal.ensures.said ∙ ap legal_of c.order_at.ensures ∙ q.legal)

pub returns-then-halts : goal.returns-then-halts
unfolding nexts reached_all
returns-then-halts c = record {
  operation = c.in-Some.l.operation;
  legal = ap legal_of (sym (c.in-Some.ensures.same ∙ c.order_at.ensures)) ∙ c.in-Some.l.legal;
  after = rw (sym c.halts.ensures ∙ c.if-halts.true);
}

pub bounds-search-place : goal.bounds-search-place
bounds-search-place c = omega (arith, few_orders _ c.requires.checked, c.requires.inside)

pub overflow_add-on : goal.overflow_add-on
overflow_add-on c = record { fits = omega (arith, few_orders _ c.requires.checked, c.requires.inside) }

pub reach-requires : goal.reach-requires
reach-requires c = (c.requires.stack, few_orders _ c.requires.checked, on_small (goal.at.reach-requires c).After-selector_after)

pub reach-requires-then-jumps : goal.reach-requires-then-jumps
reach-requires-then-jumps c =
    let few = few_orders c.args.deck.now c.requires.checked in (
      subst (Stacked _) (sym c.reach.ensures) (on_stacked _ _ _ _ _ _ _ (handing (goal.at.reach-requires-then-jumps c).After-selector_after) c.requires.stack few (on_small (goal.at.reach-requires-then-jumps c).After-selector_after)),
      few,
      omega arith,
    )

pub returns-then-jumps : goal.returns-then-jumps
returns-then-jumps c =
    subst (TakenUp _ _ c.args.search.now) (sym (c.reach-then-jumps.ensures ∙ ap (reached _ _ _) c.reach.ensures))
    (taken_either _ _ _ _ _ _ _ (handing (goal.at.returns-then-jumps c).After-selector_after) (sym c.jumps.ensures ∙ c.if-jumps.true))

pub returns-else-jumps : goal.returns-else-jumps
returns-else-jumps c =
    subst (TakenUp _ _ c.args.search.now) (sym c.reach.ensures)
    (taken_on _ _ _ _ _ _ _ (handing (goal.at.returns-else-jumps c).After-selector_after) (sym c.jumps.ensures ∙ c.if-jumps.false))
