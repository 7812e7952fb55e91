-- `slot_table` meets its contract: the tests are computed over the constant's 64 entries and over the mnemonics.
use mathlib.Core.Path.{refl}
use Rattle.decktext.specs.Key.{bytes_from, name_key, code_among_keys, code_by_key, slot_of}
use Rattle.decktext.proofs.Slots.{right, stand, slot_table}
use Rattle.decktext.proofs.Tested.{all_below}
use Rattle.decktext.proofs.mnemonic.slot_table.Goals as goal

pub returns : goal.returns
unfolding all_below right stand bytes_from name_key code_among_keys code_by_key slot_of
returns c = slot_table _ refl refl refl refl
