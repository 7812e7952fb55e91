-- The forms of a line (document 01, 'Deck text'). A line of another form is a 16.
use Rattle.std.specs.Prelude.{ℕ, List, [], ◌∷◌, Bool, true, false}
use Rattle.hexfloat.specs.Answer.{Answer, gives, stops, provided, and_then}
use Rattle.orders.specs.declared.order.Order.{Order}
use Rattle.orders.specs.declared.order.Operation.{Operation}
use Rattle.orders.specs.Order.{legal_of}
use Rattle.decktext.specs.Text.{values_of}
use Rattle.decktext.specs.Value.{mnemonic_code, decimal_of, protect_of, word_of}

-- `op r1 r2 at`
abbrev pub deck_heading : List ℕ
deck_heading = 111 ∷ 112 ∷ 32 ∷ 114 ∷ 49 ∷ 32 ∷ 114 ∷ 50 ∷ 32 ∷ 97 ∷ 116 ∷ []

-- `at protect word`
abbrev pub storage_heading : List ℕ
storage_heading = 97 ∷ 116 ∷ 32 ∷ 112 ∷ 114 ∷ 111 ∷ 116 ∷ 101 ∷ 99 ∷ 116 ∷ 32 ∷ 119 ∷ 111 ∷ 114 ∷ 100 ∷ []

-- an order that passes check 5
abbrev pub passes : Answer Operation → Bool
passes (gives op) = true
passes (stops n) = false

abbrev pub legal : Order → Answer Order
legal o = provided (passes (legal_of o)) 16 (gives o)

-- an order line: four values, `op` being a mnemonic
unfoldable pub order_from : List (List ℕ) → Answer Order
order_from [] = stops 16
order_from (m ∷ []) = stops 16
order_from (m ∷ a ∷ []) = stops 16
order_from (m ∷ a ∷ b ∷ []) = stops 16
order_from (m ∷ a ∷ b ∷ c ∷ []) =
    and_then (mnemonic_code m) (λ op. and_then (decimal_of a) (λ r1. and_then (decimal_of b) (λ r2. and_then (decimal_of c) (λ at.
    legal (record { code = op; r1 = r1; r2 = r2; at = at })))))
order_from (m ∷ a ∷ b ∷ c ∷ d ∷ vs) = stops 16

unfoldable pub order_of : List ℕ → Answer Order
order_of line = order_from (values_of line)

-- a halfword of memory with its protect digit
pub record Halfword : Type 0 where
  pub at : ℕ
  pub protect : ℕ
  pub word : ℕ

-- a memory line: three values
unfoldable pub halfword_from : List (List ℕ) → Answer Halfword
halfword_from [] = stops 16
halfword_from (a ∷ []) = stops 16
halfword_from (a ∷ p ∷ []) = stops 16
halfword_from (a ∷ p ∷ w ∷ []) =
    and_then (decimal_of a) (λ at. and_then (protect_of p) (λ protect. and_then (word_of w) (λ word.
    gives (record { at = at; protect = protect; word = word }))))
halfword_from (a ∷ p ∷ w ∷ x ∷ vs) = stops 16

unfoldable pub halfword_of : List ℕ → Answer Halfword
halfword_of line = halfword_from (values_of line)
