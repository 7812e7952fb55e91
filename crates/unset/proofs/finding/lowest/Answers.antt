-- `unset::finding::lowest` meets its contract. The loop's invariant: no order passed reads a register unset. The measure is what is left of the deck.
-- Assumes nothing.
use native.Mathlib.Omega.{arith}
use borrow.Author.Count.{below_more}
use Rattle.unset.specs.Answer.{Answers}
use Rattle.unset.proofs.Lowest.{unset_none, unset_small, unset_lowest}
use Rattle.unset.proofs.Sized.{few_cells}
use Rattle.unset.proofs.finding.lowest.Goals as goal

pub overflow_cast-orders : goal.overflow_cast-orders
overflow_cast-orders c = record { fits = omega (arith, few_cells _ c.requires.checked.sized) }

pub lowest_bit-requires : goal.lowest_bit-requires
lowest_bit-requires c =
    let start = c in
    (omega (arith, c.if-bits-ne0.true), unset_small _ _ _ _ start.requires c.loop-order-test.true c.unset_bits-bits.ensures)

pub returns-then-bits-ne0 : goal.returns-then-bits-ne0
returns-then-bits-ne0 c =
    let at = c in
    let found = at.requires in
    let inside = c.loop-order-test.true in
    let bits = c.unset_bits-bits.ensures in
    let low = unset_lowest _ _ _ _ found inside bits _ c.lowest_bit.ensures at.loop-order.invariant in
    rw c.register_of-register.ensures (Answers.lowest found.checked low)

pub loop-order-preserved : goal.loop-order-preserved
loop-order-preserved c =
    let at = c in
    let none = unset_none _ _ _ _ at.requires c.loop-order-test.true c.unset_bits-bits.ensures c.if-bits-ne0.false in
    below_more _ _ at.loop-order.invariant none

pub returns : goal.returns
returns c =
    let found = c.requires in
    Answers.none found.checked (λ q t r. c.loop-order.invariant q (omega (arith, r.reads.here.inside)) t r)
