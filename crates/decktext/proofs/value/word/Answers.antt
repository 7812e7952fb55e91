use Rattle.decktext.proofs.Decimals.{word_number, word_other}
use mathlib.Core.Path.{◌∙◌}
use Rattle.decktext.proofs.value.word.Goals as goal

pub returns-then-v-ne4 : goal.returns-then-v-ne4
returns-then-v-ne4 c = word_other _ c.if-v-ne4.true

pub returns : goal.returns
returns c = c.number.ensures ∙ word_number _ c.if-v-ne4.false
