-- `digit_table` meets its contract: the test is computed over the constant's 256 entries, the last `refl`.
use mathlib.Core.Path.{refl}
use Rattle.decktext.proofs.DigitTable.{right, digit_table}
use Rattle.decktext.proofs.Tested.{all_below}
use Rattle.decktext.proofs.digit.digit_table.Goals as goal

pub returns : goal.returns
unfolding all_below right
returns c = digit_table _ refl refl
