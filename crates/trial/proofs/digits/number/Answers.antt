-- A byte that is no digit, one digit more, and the end.
use Rattle.std.proofs.Common.{rules, sym, ◌∙◌}
use Rattle.trial.proofs.ByDigits.{digit_more, no_digit, no_more}
use Rattle.trial.proofs.digits.number.Goals as goal

pub returns-in_default : goal.returns-in_default
returns-in_default c = sym (no_digit _ _ _ _ c.loop-byte-test.true (search rules)) ∙ c.loop-byte.invariant

pub loop-byte-preserved : goal.loop-byte-preserved
loop-byte-preserved c = digit_more _ _ _ _ c.loop-byte-test.true (search rules) ∙ c.loop-byte.invariant

pub returns : goal.returns
returns c = sym (no_more _ c.loop-byte.n c.args.digits.now c.loop-byte.byte-index (search rules)) ∙ c.loop-byte.invariant
