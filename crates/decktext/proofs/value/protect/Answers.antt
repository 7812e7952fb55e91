use Rattle.decktext.proofs.Decimals.{protect_number, protect_other}
use mathlib.Core.Path.{◌∙◌}
use Rattle.decktext.proofs.value.protect.Goals as goal

pub returns-then-v-ne1 : goal.returns-then-v-ne1
returns-then-v-ne1 c = protect_other _ c.if-v-ne1.true

pub returns : goal.returns
returns c = c.number.ensures ∙ protect_number _ c.if-v-ne1.false
