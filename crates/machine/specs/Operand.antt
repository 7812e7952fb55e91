-- Operands: registers, pairs r and (r + 1) mod 8, and storage, leftmost halfword at the lowest address (document 01, 'State', 'Orders').
use Rattle.std.specs.Prelude.{ℕ, ◌+◌, ◌*◌, ◌%◌, List, slice_index}
use Rattle.hexfloat.specs.declared.word.Width.{Width}
use Rattle.hexfloat.specs.declared.word.Words.{Words}
use Rattle.hexfloat.specs.Word.{short_words}
use Rattle.orders.specs.declared.order.Order.{Order}
use Rattle.orders.specs.declared.order.Place.{Place}
use Rattle.orders.specs.Address.{address_of}
use Rattle.orders.specs.General.{general_at}
use Rattle.machine.specs.declared.state.Registers.{Registers}

-- a float register among the eight
abbrev pub float_at : List ℕ → ℕ → ℕ
float_at f r = slice_index f r

abbrev pub float_pair : List ℕ → ℕ → Words
float_pair f r = record { high = float_at f r; low = float_at f ((r + 1) % 8) }

abbrev pub word_at : List ℕ → ℕ → ℕ
word_at m a = slice_index m a * 65536 + slice_index m (a + 1)

abbrev pub long_at : List ℕ → ℕ → Words
long_at m a = record { high = word_at m a; low = word_at m (a + 2) }

-- R r, or pair r
unfoldable pub float_operand : Width → List ℕ → ℕ → Words
float_operand Width.Short f r = short_words (float_at f r)
float_operand Width.Long f r = float_pair f r

-- S
unfoldable pub storage_operand : Width → List ℕ → ℕ → Words
storage_operand Width.Short m a = short_words (word_at m a)
storage_operand Width.Long m a = long_at m a

-- the second operand of an order, from float registers, general registers of set s or memory, where S is at a
unfoldable pub second_operand : Place → Width → Order → List ℕ → List ℕ → ℕ → List ℕ → ℕ → Words
second_operand Place.Nowhere w o f n s m a = short_words 0
second_operand Place.FloatRegister w o f n s m a = float_operand w f o.r2
second_operand Place.GeneralRegister w o f n s m a = short_words (general_at n s o.r2)
second_operand Place.Storage w o f n s m a = storage_operand w m a

-- where S is, by the selected set of general registers
abbrev pub address_in : Order → Registers → ℕ
address_in o g = address_of o g.general g.status.selector
