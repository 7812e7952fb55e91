-- The reader before storage orders were indexed (document 02, Job 7): an order line had to pass check 5 as it was.
use Rattle.std.specs.Prelude.{ℕ, ◌≡◌, List, [], ◌∷◌}
use Rattle.hexfloat.specs.Answer.{Answer, gives, provided, and_then}
use Rattle.orders.specs.declared.order.Order.{Order}
use Rattle.orders.specs.Unindexed.{unindexed_legal, NoIndex}
use Rattle.decktext.specs.Text.{Line, ended, unended}
use Rattle.decktext.specs.Format.{passes, order_of}
use Rattle.decktext.specs.Read.{Buffers, Outcome, Progress, Given, line_by, read_text_by}

-- an order line: the one of the present form, if it passes
abbrev pub unindexed_order_of : List ℕ → Answer Order
unindexed_order_of line = and_then (order_of line) (λ o. provided (passes (unindexed_legal o)) 16 (gives o))

abbrev pub unindexed_line_read : Progress → List ℕ → Answer Given
unindexed_line_read p line = line_by unindexed_order_of p.wanted p line

unfoldable pub unindexed_read_text : List ℕ → Buffers → Outcome
unindexed_read_text t b = read_text_by unindexed_line_read t b

-- no line reads as an order that names an index
abbrev pub NoIndexLine : Line → Type 0
NoIndexLine (ended l) = (o : Order) → order_of l ≡ gives o → NoIndex o
NoIndexLine (unended l) = Unit {0}

unfoldable pub NoIndexLines : List Line → Type 0
NoIndexLines [] = Unit {0}
NoIndexLines (l ∷ ls) = NoIndexLine l × NoIndexLines ls
