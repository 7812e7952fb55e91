-- `machine::fetching::fetch` meets its contract: checks 5 and 6, then both operands.
-- Assumes nothing.
use Rattle.std.proofs.Common.{sym, ◌∙◌}
use Rattle.machine.specs.Fetch.{operands_read}
use Rattle.machine.proofs.Rows.{first_register}
use Rattle.machine.proofs.fetching.fetch.Goals as goal

pub returns-in_default : goal.returns-in_default
unfolding operands_read
returns-in_default c = rw (← c.legal.ensures.said, c.in_default.is)

pub returns-then-not-is_present : goal.returns-then-not-is_present
unfolding operands_read
returns-then-not-is_present c =
    rw (
      ← c.in-Some.ensures.same,
      c.in-Some.l.legal,
      ← c.address-at.ensures,
      ← c.span.ensures,
      ← c.is_present.ensures,
      c.if-not-is_present.true,
    )

pub float_operand-first-requires : goal.float_operand-first-requires
float_operand-first-requires c = first_register c.in-Some.l

pub returns : goal.returns
unfolding operands_read
returns c =
    let there = rw c.span.ensures at (sym c.is_present.ensures ∙ c.if-not-is_present.false) in
    rw (
      ← c.in-Some.ensures.same,
      c.in-Some.l.legal,
      ← c.address-at.ensures,
      there,
      c.float_operand-first.ensures,
      c.second_operand-second.ensures,
    )
