-- The first cell that a check refuses, and that check 5 refuses one of an order that does not pass it.
use Prim.Native.Nat.{ℕ, ◌<◌}
use mathlib.Core.Path.{◌≡◌, refl, sym}
use mathlib.Core.Bool.{Bool, true, false, cond, ◌||◌}
use lib.Dec.{leb, ltb}
use native.Mathlib.Omega.{arith}
use borrow.Author.Tests.{ltb-false, le-leb}
use Rattle.hexfloat.specs.Answer.{Answer, gives, stops, provided, and_then}
use Rattle.orders.specs.declared.order.Operation.{Operation}
use Rattle.orders.specs.declared.order.Order.{Order}
use Rattle.orders.specs.Order.{operation_of, within_limits, legal_of}
use Rattle.hexfloat.proofs.Answers.{never}
use Rattle.cause.specs.declared.cell.Cell.{Cell}
use Rattle.cause.specs.Cell.{place_of, first_cell, IsFirstCell, breaks_row, breaks}

-- one of the four is refused
abbrev any_cell : (Cell → Bool) → Bool
any_cell refuses = refuses Cell.Code || (refuses Cell.R1 || (refuses Cell.R2 || refuses Cell.At))

first_is : (refuses : Cell → Bool) → any_cell refuses ≡ true → IsFirstCell refuses (first_cell refuses)
unfolding first_cell
first_is refuses h = cases (refuses Cell.Code) (refuses Cell.R1) (refuses Cell.R2) refl refl refl h
  where
    cases :
        (x y z : Bool) → refuses Cell.Code ≡ x → refuses Cell.R1 ≡ y → refuses Cell.R2 ≡ z → (x || (y || (z || refuses Cell.At))) ≡ true →
        IsFirstCell refuses (cond x Cell.Code (cond y Cell.R1 (cond z Cell.R2 Cell.At)))
    cases true y z a b c h = record { refused = a; passed = none }
      where
        none : (e : Cell) → place_of e < 0 → refuses e ≡ false
        none e l = absurd (omega arith)
    cases false true z a b c h = record { refused = b; passed = before }
      where
        before : (e : Cell) → place_of e < 1 → refuses e ≡ false
        before Cell.Code l = a
        before Cell.R1 l = absurd (omega arith)
        before Cell.R2 l = absurd (omega arith)
        before Cell.At l = absurd (omega arith)
    cases false false true a b c h = record { refused = c; passed = before }
      where
        before : (e : Cell) → place_of e < 2 → refuses e ≡ false
        before Cell.Code l = a
        before Cell.R1 l = b
        before Cell.R2 l = absurd (omega arith)
        before Cell.At l = absurd (omega arith)
    cases false false false a b c h = record { refused = h; passed = before }
      where
        before : (e : Cell) → place_of e < 3 → refuses e ≡ false
        before Cell.Code l = a
        before Cell.R1 l = b
        before Cell.R2 l = c
        before Cell.At l = absurd (omega arith)

-- a cell within its limit is not above it
within : (a b : ℕ) → ltb b a ≡ false → leb a b ≡ true
within a b h = le-leb a b (ltb-false b a h)

-- an order of this row within no limit that it breaks passes
any_broken : (r : Answer Operation) (o : Order) (k : ℕ) → and_then r (λ op. provided (within_limits op o) 5 (gives op)) ≡ stops k → any_cell (breaks_row r o) ≡ true
unfolding breaks_row within_limits
any_broken (stops n) o k h = refl
any_broken (gives op) o k h = cases (ltb op.r1 o.r1) (ltb op.r2 o.r2) (ltb op.at o.at) refl refl refl
  where
    cases : (x y z : Bool) → ltb op.r1 o.r1 ≡ x → ltb op.r2 o.r2 ≡ y → ltb op.at o.at ≡ z → (x || (y || z)) ≡ true
    cases true y z a b c = refl
    cases false true z a b c = refl
    cases false false true a b c = refl
    cases false false false a b c =
        never (sym (rw (within o.r1 op.r1 a, within o.r2 op.r2 b, within o.at op.at c) at h))

pub first_broken : (o : Order) (k : ℕ) → legal_of o ≡ stops k → IsFirstCell (breaks o) (first_cell (breaks o))
unfolding legal_of
first_broken o k h = first_is (breaks o) (any_broken (operation_of o.code) o k h)
