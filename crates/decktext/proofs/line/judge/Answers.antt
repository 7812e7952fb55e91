use Rattle.decktext.proofs.Same.{same_none, same_length}
use Rattle.decktext.specs.Walk.{judged_line}
use borrow.Author.Tests.{eqb-true, eqb-false}
use lib.ListN.{length}
use mathlib.Core.Path.{sym, ◌∙◌}
use mathlib.Core.List.{[]}
use Rattle.decktext.proofs.line.judge.Goals as goal

pub returns-then-is_empty : goal.returns-then-is_empty
unfolding judged_line
returns-then-is_empty c = λ b s. rw (c.in-Order.is, same_none _ (eqb-true (length c.args.line.now) 0 (sym c.is_empty.ensures ∙ c.if-is_empty.true)))

pub returns-in-Heading : goal.returns-in-Heading
unfolding judged_line
returns-in-Heading c = λ b s. rw c.in-Heading.is c.judge_heading.ensures

pub returns-else-is_empty : goal.returns-else-is_empty
unfolding judged_line
returns-else-is_empty c = λ b s. rw (c.in-Order.is, same_length _ [] (eqb-false (length c.args.line.now) 0 (sym c.is_empty.ensures ∙ c.if-is_empty.false))) (c.judge_order.ensures b s)

pub returns-in-Storage : goal.returns-in-Storage
unfolding judged_line
returns-in-Storage c = λ b s. rw c.in-Storage.is c.judge_heading-in-Storage.ensures

pub returns-in-Halfword : goal.returns-in-Halfword
unfolding judged_line
returns-in-Halfword c = λ b s. rw c.in-Halfword.is (c.judge_halfword.ensures b s)
