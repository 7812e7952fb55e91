-- The chart of every legal order (document 02, Job 10): what belongs to it, and in which order it is.
use Rattle.std.specs.Prelude.{ℕ, zero, suc, List, [], ◌∷◌, ◌++◌, Bool, false, cond, ◌||◌, leb, ltb}
use Rattle.hexfloat.specs.Answer.{Answer, gives, stops}
use Rattle.orders.specs.declared.order.Operation.{Operation}
use Rattle.orders.specs.declared.order.Order.{Order}
use Rattle.orders.specs.Order.{legal_of}

-- the four cells of an order
abbrev pub order : ℕ → ℕ → ℕ → ℕ → Order
order c a b t = record { code = c; r1 = a; r2 = b; at = t }

-- an answer that gives something of which a test passes
abbrev pub passing : {A : Type 0} → Answer A → (A → Bool) → Bool
passing (gives x) test = test x
passing (stops n) test = false

-- `at` is below n if it is in use, that is, if the table lets it be other than 0
abbrev pub at_below : ℕ → Order → Operation → Bool
at_below n o op = leb op.at 0 || ltb o.at n

-- an order belongs to the chart for the bound n if it passes check 5 and its `at`, where in use, is below n
unfoldable pub belongs : ℕ → Order → Bool
belongs n o = passing (legal_of o) (at_below n o)

-- what f lists for i, then for i + 1, and so on, m times
unfoldable pub listed_from : {A : Type 0} → ℕ → ℕ → (ℕ → List A) → List A
listed_from i zero f = []
listed_from i (suc m) f = f i ++ listed_from (suc i) m f

-- for each content of a 16-bit cell, rising
abbrev pub for_each_cell : (ℕ → List Order) → List Order
for_each_cell f = listed_from 0 65536 f

-- an order that belongs, once; one that does not, not at all
unfoldable pub if_belongs : ℕ → Order → List Order
if_belongs n o = cond (belongs n o) (o ∷ []) []

-- rising by code, then r1, r2, at
unfoldable pub chart : ℕ → List Order
chart n = for_each_cell (λ c. for_each_cell (λ a. for_each_cell (λ b. for_each_cell (λ t. if_belongs n (order c a b t)))))
