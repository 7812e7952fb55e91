-- What an order that may stop answers: what it gives, or the number of its stop (document 01, 'Causes and their numbers').
use Rattle.std.specs.Prelude.{ℕ, Bool, cond, eqb}

pub data Answer (A : Type 0) : Type 0 where
  gives : A → Answer A
  stops : ℕ → Answer A

-- the same answer in another form
abbrev pub mapped : {A B : Type 0} → (A → B) → Answer A → Answer B
mapped f (gives a) = gives (f a)
mapped f (stops n) = stops n

-- a check: its number is the answer unless it passes
abbrev pub provided : {A : Type 0} → Bool → ℕ → Answer A → Answer A
provided ok n rest = cond ok rest (stops n)

-- checks that were made before: the number of the first that failed is the answer, and 0 says that none did
abbrev pub checked : {A : Type 0} → ℕ → Answer A → Answer A
checked k rest = provided (eqb k 0) k rest

-- an answer that a further check is made of
abbrev pub and_then : {A B : Type 0} → Answer A → (A → Answer B) → Answer B
and_then (gives a) f = f a
and_then (stops n) f = stops n
