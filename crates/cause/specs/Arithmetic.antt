-- The stop that the words of its operands, the order and the mask alone give (document 02, Job 5).
use Rattle.std.specs.Prelude.{ℕ, List, eqb, get_or}
use Rattle.hexfloat.specs.declared.word.Width.{Width}
use Rattle.hexfloat.specs.declared.word.Words.{Words}
use Rattle.hexfloat.specs.Add.{summed_words}
use Rattle.hexfloat.specs.Answer.{Answer, gives, stops}
use Rattle.hexfloat.specs.Convert.{to_fixed}
use Rattle.hexfloat.specs.Divide.{quotient_words}
use Rattle.hexfloat.specs.Multiply.{product_words}
use Rattle.hexfloat.specs.Word.{short_words, long_words}
use Rattle.orders.specs.declared.order.Operation.{Operation}
use Rattle.orders.specs.declared.order.Order.{Order}
use Rattle.orders.specs.declared.order.Verb.{Verb}
use Rattle.orders.specs.Order.{legal_of}
use Rattle.machine.specs.Effect.{product_width}

-- the number of an answer that stops, 0 of one that gives something
abbrev pub stop_in : {A : Type 0} → Answer A → ℕ
stop_in (gives x) = 0
stop_in (stops k) = k

-- word i of a list
abbrev word : List ℕ → ℕ → ℕ
word ws i = get_or ws i 0

-- two operands in a row
abbrev pub first_among : Width → List ℕ → Words
first_among Width.Short ws = short_words (word ws 0)
first_among Width.Long ws = long_words (word ws 0) (word ws 1)

abbrev pub second_among : Width → List ℕ → Words
second_among Width.Short ws = short_words (word ws 1)
second_among Width.Long ws = long_words (word ws 2) (word ws 3)

-- The stop of an order by the words that it reads: CVFX (8.13) of one word, quotients (8.15, 8.16), sums and differences (8.9, 8.10, 8.26, 8.27) and
-- products (8.24, 8.25) of two operands, of which r says how many digits a short product keeps. Other orders need no word to stop or not to.
unfoldable pub arithmetic_stop : Verb → Width → ℕ → ℕ → List ℕ → ℕ
arithmetic_stop Verb.Load w r mask ws = 0
arithmetic_stop Verb.Complement w r mask ws = 0
arithmetic_stop Verb.Compare w r mask ws = 0
arithmetic_stop Verb.Fix w r mask ws = stop_in (to_fixed (word ws 0))
arithmetic_stop Verb.Float w r mask ws = 0
arithmetic_stop Verb.Divide w r mask ws = stop_in (quotient_words w (eqb mask 1) (first_among w ws) (second_among w ws))
arithmetic_stop Verb.Store w r mask ws = 0
arithmetic_stop Verb.LoadGeneral w r mask ws = 0
arithmetic_stop Verb.StoreGeneral w r mask ws = 0
arithmetic_stop Verb.SetMask w r mask ws = 0
arithmetic_stop Verb.Jump w r mask ws = 0
arithmetic_stop Verb.CountDown w r mask ws = 0
arithmetic_stop Verb.Halt w r mask ws = 12
arithmetic_stop (Verb.Sum s) w r mask ws = stop_in (summed_words s w (eqb mask 1) (first_among w ws) (second_among w ws))
arithmetic_stop Verb.Multiply w r mask ws = stop_in (product_words w (product_width w r) (eqb mask 1) (first_among w ws) (second_among w ws))
arithmetic_stop Verb.Select w r mask ws = 0

-- by the row of an order
abbrev pub stop_by_row : Answer Operation → Order → ℕ → List ℕ → ℕ
stop_by_row (gives op) o mask ws = arithmetic_stop op.verb op.width o.r1 mask ws
stop_by_row (stops k) o mask ws = 0

-- fed the order, the mask and the words, and nothing else
unfoldable pub stop_by : Order → ℕ → List ℕ → ℕ
stop_by o mask ws = stop_by_row (legal_of o) o mask ws
