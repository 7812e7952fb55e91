-- For the private functions: the passes over the orders of a deck.
use Rattle.std.specs.Prelude.{ℕ, ◌+◌, ◌*◌, ◌/◌, ◌<◌, ◌≡◌, List, Bool, true, false, length, get_or}
use Rattle.std.specs.Int.Bits.{bit_and, bit_or}
use Rattle.hexfloat.specs.Answer.{gives, stops}
use Rattle.orders.specs.declared.order.Operation.{Operation}
use Rattle.orders.specs.Order.{order_at, legal_of}
use Rattle.unset.specs.Answer.{Checked, Legal}
use Rattle.unset.specs.Bits.{in_word, read_bits}
use Rattle.unset.specs.Search.{Explored}

-- what is said of check 5: that order p passes it, or that it does not
abbrev pub SaysLegal : List ℕ → ℕ → Bool → Type 0
SaysLegal d p true = Legal d p
SaysLegal d p false = legal_of (order_at d p) ≡ stops 5

-- that every order passes it, or that one does not
pub record SomeIllegal (d : List ℕ) : Type 0 where
  pub order : ℕ
  pub inside : order < length d / 4
  pub illegal : legal_of (order_at d order) ≡ stops 5

abbrev pub SaysAllLegal : List ℕ → Bool → Type 0
SaysAllLegal d true = (p : ℕ) → p < length d / 4 → Legal d p
SaysAllLegal d false = SomeIllegal d

-- the lowest bit of a word that is set
pub record LowestBit (w k : ℕ) : Type 0 where
  pub small : k < 24
  pub here : in_word k w ≡ true
  pub below : (j : ℕ) → j < k → in_word j w ≡ false

-- the word of what order p reads and of what reaches it unwritten, with either selector
pub record UnsetBits (d u : List ℕ) (p w : ℕ) : Type 0 where
  pub operation : Operation
  pub legal : legal_of (order_at d p) ≡ gives operation
  pub bits :
      w ≡ bit_or (bit_and (read_bits operation (order_at d p) 0) (get_or u (p * 2) 0)) (bit_and (read_bits operation (order_at d p) 1) (get_or u (p * 2 + 1) 0))

-- a deck that passes the checks, and what was found of its places
pub record Searched (d u : List ℕ) : Type 0 where
  pub checked : Checked d
  pub explored : Explored d u
