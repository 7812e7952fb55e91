-- For the private functions: the 24 registers as bits of a word.
use Rattle.std.specs.Prelude.{ℕ, ◌-◌, ◌^◌, List, [], ◌∷◌, Bool, cond, eqb, ltb}
use Rattle.std.specs.Int.Bits.{bit_or, bit_xor}
use Rattle.orders.specs.declared.order.Operation.{Operation}
use Rattle.orders.specs.declared.order.Order.{Order}
use Rattle.protection.specs.Bits.{bit_of}
use Rattle.machine.specs.Uses.{Register, float, general, first_read, second_read}
use Rattle.unset.specs.Answer.{rank}

-- register k of the 24: the floats, set 0, set 1
unfoldable pub register_of : ℕ → Register
register_of k = cond (ltb k 8) (float k) (cond (ltb k 16) (general 0 (k - 8)) (general 1 (k - 16)))

-- bit k of a word is set
unfoldable pub in_word : ℕ → ℕ → Bool
in_word k w = eqb (bit_of k w) 1

-- the word of some registers
unfoldable pub bits_of : List Register → ℕ
bits_of [] = 0
bits_of (r ∷ rs) = bit_or (2 ^ rank r) (bits_of rs)

-- that of all 24
abbrev pub all : ℕ
all = 0xFFFFFF

-- the bits of a that are not among those of w
unfoldable pub without : ℕ → ℕ → ℕ
without a w = bit_xor (bit_or a w) w

-- the word of what an order reads
abbrev pub read_bits : Operation → Order → ℕ → ℕ
read_bits op o s = bit_or (bits_of (first_read op o s)) (bits_of (second_read op.place op.width o s))
