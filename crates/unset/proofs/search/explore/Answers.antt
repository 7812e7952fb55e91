-- `unset::search::explore` meets its contract. The invariant is that of the search; the measure is what is left to do, by the bits still to gain.
-- Assumes nothing.
use mathlib.Core.Path.{sym, subst}
use native.Mathlib.Omega.{arith}
use Rattle.unset.proofs.Sized.{few_cells, few_orders}
use Rattle.unset.proofs.Exploring.{Searching, Onward, blank, blank-stacked, searching_starts, searching_popped, searching_ends}
use Rattle.unset.proofs.Stack.{Popped, calmed, popped_last, popped_none, stacked-popped}
use Rattle.unset.proofs.search.explore.Goals as goal
use Rattle.unset.proofs.search.explore.Goals.{In-Some, After-take_up}

pub overflow_cast-orders : goal.overflow_cast-orders
overflow_cast-orders c = record { fits = omega (arith, few_cells _ c.requires.0.sized) }

pub reach-requires : goal.reach-requires
reach-requires c =
    (rw c.requires.1 (blank-stacked _ _ blank), few_orders _ c.requires.0, omega arith)

pub loop-place-init : goal.loop-place-init
loop-place-init c =
    subst (Searching _) (sym c.reach.ensures) (rw c.requires.1 (searching_starts _ _ (few_orders _ c.requires.0) blank))

taken : (c : In-Some) → Popped c.loop-place.search (calmed c.loop-place.search c.pop.new.self c.in-Some.place) c.in-Some.place
taken c = popped_last c.loop-place.search c.pop.new.self c.pop.result c.in-Some.place c.pop.ensures.rest c.pop.ensures.value c.in-Some.is

pub take_up-requires : goal.take_up-requires
take_up-requires c =
    let p = taken (goal.at.take_up-requires c).In-Some in
    let s = c.loop-place.invariant in
    rw p.left record { checked = c.requires.0; stack = stacked-popped _ _ s.stack p.some; inside = rw (← p.last) (s.stack.inside _ (omega (arith, p.some))) }

onward : (c : After-take_up) → Popped c.loop-place.search (calmed c.loop-place.search c.pop.new.self c.in-Some.place) c.in-Some.place → Onward c.args.deck.now c.loop-place.search c.take_up.new.search
onward c p = searching_popped _ _ _ _ _ c.loop-place.invariant p c.take_up.ensures

pub loop-place-smaller : goal.loop-place-smaller
loop-place-smaller c = (onward (goal.at.loop-place-smaller c).After-take_up (taken (goal.at.loop-place-smaller c).In-Some)).less

pub loop-place-preserved : goal.loop-place-preserved
loop-place-preserved c = (onward (goal.at.loop-place-preserved c).After-take_up (taken (goal.at.loop-place-preserved c).In-Some)).inv

pub returns : goal.returns
returns c = searching_ends _ _ c.loop-place.invariant (popped_none c.loop-place.search c.pop.result c.pop.ensures.value c.in_default.is)
