-- `cause::words::words_named` meets its contract: none, one or two.
-- Assumes nothing.
use mathlib.Core.Path.{sym, ◌∙◌}
use native.Mathlib.Omega.{arith}
use Rattle.cause.specs.Words.{words_named}
use Rattle.cause.proofs.Arithmetic.{two_named}
use Rattle.cause.proofs.words.words_named.Goals as goal

pub returns-then-count-eq0 : goal.returns-then-count-eq0
unfolding words_named
returns-then-count-eq0 c = rw c.if-count-eq0.true

pub returns-then-count-eq1 : goal.returns-then-count-eq1
unfolding words_named
returns-then-count-eq1 c = rw c.if-count-eq1.true

pub returns : goal.returns
returns c = c.both.ensures ∙ sym (two_named c.args.count _ _ _ (omega (arith, c.if-count-eq0.false, c.if-count-eq1.false)))
