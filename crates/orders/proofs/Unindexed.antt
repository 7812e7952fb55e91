-- An order that names no index passes check 5 as it did before storage orders were indexed.
use Prim.Native.Nat.{ℕ}
use mathlib.Core.Path.{◌≡◌, refl}
use mathlib.Core.Bool.{Bool, true, false, ◌&&◌}
use lib.Dec.{leb}
use native.Mathlib.Omega.{arith}
use borrow.Author.Tests.{le-leb}
use Rattle.hexfloat.specs.Answer.{Answer, gives, stops, mapped, provided, and_then}
use Rattle.orders.specs.declared.order.Order.{Order}
use Rattle.orders.specs.declared.order.Operation.{Operation}
use Rattle.orders.specs.declared.order.Place.{Place}
use Rattle.orders.specs.Order.{operation_of, within_limits, legal_of}
use Rattle.orders.specs.Unindexed.{unindexed_limit, unindexed_row, unindexed_legal, NoIndex}

-- what says the same of the two limits of a row in storage says the same of those of every row
pub limit_same : {A : Type 0} (f : ℕ → A) (q : Place) (limit : ℕ) → (q ≡ Place.Storage → f 0 ≡ f limit) → f (unindexed_limit q limit) ≡ f limit
limit_same f Place.Nowhere limit h = refl
limit_same f Place.FloatRegister limit h = refl
limit_same f Place.GeneralRegister limit h = refl
limit_same f Place.Storage limit h = h refl

-- r2 is within the one exactly if it is within the other
within_same : (q : Place) (r limit : ℕ) → (q ≡ Place.Storage → r ≡ 0) → leb r (unindexed_limit q limit) ≡ leb r limit
within_same q r limit h = limit_same (leb r) q limit (λ s. rw (le-leb r 0 (omega (arith, h s)), le-leb r limit (omega (arith, h s))))

module _ (o : Order) where
  checked-row :
      (op : Operation) → (op.place ≡ Place.Storage → o.r2 ≡ 0) →
      provided (within_limits (unindexed_row op) o) 5 (gives (unindexed_row op)) ≡ mapped unindexed_row (provided (within_limits op o) 5 (gives op))
  unfolding within_limits
  checked-row op h = rw (within_same op.place o.r2 op.r2 h) (cases (leb o.r1 op.r1 && (leb o.r2 op.r2 && leb o.at op.at)))
    where
      cases : (b : Bool) → provided b 5 (gives (unindexed_row op)) ≡ mapped unindexed_row (provided b 5 (gives op))
      cases true = refl
      cases false = refl

  pub legal_unindexed : NoIndex o → unindexed_legal o ≡ mapped unindexed_row (legal_of o)
  unfolding unindexed_legal legal_of
  legal_unindexed h = cases (operation_of o.code) h
    where
      check : Operation → Answer Operation
      check op = provided (within_limits op o) 5 (gives op)

      cases : (r : Answer Operation) → ((op : Operation) → r ≡ gives op → op.place ≡ Place.Storage → o.r2 ≡ 0) → and_then (mapped unindexed_row r) check ≡ mapped unindexed_row (and_then r check)
      cases (gives op) k = checked-row op (k op refl)
      cases (stops n) k = refl
