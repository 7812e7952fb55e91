-- What holds of each row of the table of orders: a test of its code and operation that is computed over the rows, and what it says of a code's row.
use Prim.Native.Nat.{ℕ, ◌+◌}
use mathlib.Core.Path.{◌≡◌, refl, subst}
use mathlib.Core.Bool.{Bool, true, false, cond, ◌&&◌}
use mathlib.Core.List.{List, [], ◌∷◌}
use lib.Dec.{eqb}
use borrow.Author.Tests.{eqb-true}
use Rattle.hexfloat.specs.Answer.{gives}
use Rattle.hexfloat.proofs.Answers.{gives_inj, never, both}
use Rattle.orders.specs.declared.order.Operation.{Operation}
use Rattle.orders.specs.Order.{rows, row_among, operation_of}

module _ (test : ℕ → Operation → Bool) where
  -- of some rows, the first of which has the code k
  unfoldable pub all_rows : List Operation → ℕ → Bool
  all_rows [] k = true
  all_rows (op ∷ ops) k = test k op && all_rows ops (k + 1)

  among_passes : (ops : List Operation) (k n : ℕ) (op : Operation) → all_rows ops k ≡ true → row_among ops k n ≡ gives op → test n op ≡ true
  unfolding row_among all_rows
  among_passes [] k n op f h = never h
  among_passes (x ∷ xs) k n op f h =
      let pass = both (test k x) (all_rows xs (k + 1)) f in
      cases (eqb n k) refl pass.0 (among_passes xs (k + 1) n op pass.1) h
    where
      cases :
          (b : Bool) → eqb n k ≡ b → test k x ≡ true → (row_among xs (k + 1) n ≡ gives op → test n op ≡ true) →
          cond b (gives x) (row_among xs (k + 1) n) ≡ gives op → test n op ≡ true
      cases true same first rest e = rw (eqb-true n k same) (subst (λ (y : Operation). test k y ≡ true) (gives_inj e) first)
      cases false same first rest e = rest e

  pub row_passes : all_rows rows 1 ≡ true → (n : ℕ) (op : Operation) → operation_of n ≡ gives op → test n op ≡ true
  unfolding operation_of
  row_passes f n op h = among_passes rows 1 n op f h
