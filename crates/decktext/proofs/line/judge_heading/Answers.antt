use mathlib.Core.Path.{sym, ◌∙◌}
use Rattle.decktext.proofs.Same.{same_pointwise}
use Rattle.decktext.proofs.line.judge_heading.Goals as goal

pub returns-then-eq : goal.returns-then-eq
returns-then-eq c = rw (sym (same_pointwise c.args.line.now c.args.wanted.now) ∙ sym c.if-eq.ensures)

pub returns-else-eq : goal.returns-else-eq
returns-else-eq c = rw (sym (same_pointwise c.args.line.now c.args.wanted.now) ∙ sym c.if-eq.ensures)
