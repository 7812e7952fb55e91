-- `unset::finding::first_unset` meets its contract: checks 1 and 5, and what the search finds.
-- Assumes nothing.
use mathlib.Core.Path.{sym, subst, ◌∙◌}
use Rattle.unset.specs.Answer.{Answers, Checked}
use Rattle.unset.specs.Finding.{SaysAllLegal}
use Rattle.unset.proofs.Sized.{few_cells}
use Rattle.unset.proofs.finding.first_unset.Goals as goal
use Rattle.unset.proofs.finding.first_unset.Goals.{Else-not-all_legal}

pub returns-then-not-deck_sized : goal.returns-then-not-deck_sized
returns-then-not-deck_sized c = let test = c.deck_sized in Answers.wrong_size (sym test.ensures ∙ c.if-not-deck_sized.true)

pub all_legal-requires : goal.all_legal-requires
all_legal-requires c = let test = c.deck_sized in few_cells _ (sym test.ensures ∙ c.if-not-deck_sized.false)

pub returns-then-not-all_legal : goal.returns-then-not-all_legal
returns-then-not-all_legal c =
    let test = c.deck_sized in
    let said = c.all_legal in
    let bad = subst (SaysAllLegal _) (c.if-not-all_legal.true) said.ensures in
    Answers.illegal (sym test.ensures ∙ c.if-not-deck_sized.false) bad.order bad.inside bad.illegal

-- where both tests pass
checked : (c : Else-not-all_legal) → Checked c.args.deck.now
checked c =
    let test = c.deck_sized in
    let said = c.all_legal in
    record {
      sized = sym test.ensures ∙ c.if-not-deck_sized.false;
      legal = subst (SaysAllLegal _) (c.if-not-all_legal.false) said.ensures;
    }

pub explore-requires : goal.explore-requires
explore-requires c = (checked (goal.at.explore-requires c).Else-not-all_legal, rw c.new.ensures)
