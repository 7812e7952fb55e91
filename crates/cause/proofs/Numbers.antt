-- The number that is answered for a step's stop, and what it names.
use Prim.Native.Nat.{ℕ, ◌≤◌}
use mathlib.Core.Path.{◌≡◌, refl}
use mathlib.Core.List.{List}
use mathlib.Core.Logic.{⊎_elim}
use mathlib.Core.Bool.{Bool, true, false, cond, ◌||◌}
use lib.Dec.{eqb, leb}
use native.Mathlib.Nat.{eq-zero-or-pos}
use native.Mathlib.Omega.{arith}
use borrow.Author.Tests.{eqb-true, eqb-false, leb-true, ne_eqb, le-leb}
use Rattle.orders.specs.declared.order.Order.{Order}
use Rattle.protection.specs.Form.{ProtectList}
use Rattle.machine.specs.declared.state.Registers.{Registers}
use Rattle.machine.specs.Fetch.{operands_read}
use Rattle.cause.specs.declared.naming.Named.{Named}
use Rattle.cause.specs.Cause.{cause_number, named_for}
use Rattle.cause.specs.Words.{words_read}

-- a number from 1 to 11 is answered as it is
pub number_same : (k : ℕ) → 1 ≤ k → k ≤ 11 → cause_number k ≡ k
unfolding cause_number
number_same k l u = rw (ne_eqb k 0 (λ z. omega arith), le-leb k 11 u)

-- so is 20, and any other as 18
number_by : (P : ℕ → Type 0) (k : ℕ) → (1 ≤ k → k ≤ 11 → P k) → (k ≡ 20 → P k) → P 18 → P (cause_number k)
unfolding cause_number
number_by P k early seat other = cases (eqb k 0) (leb k 11) (eqb k 20) refl refl refl
  where
    cases : (x y z : Bool) → eqb k 0 ≡ x → leb k 11 ≡ y → eqb k 20 ≡ z → P (cond x 18 (cond (y || z) k 18))
    cases true y z a b c = other
    cases false true z a b c = let some = eqb-false k 0 a in early (⊎_elim (λ z. absurd (some z)) (λ z. z) (eq-zero-or-pos k)) (leb-true k 11 b)
    cases false false true a b c = seat (eqb-true k 20 c)
    cases false false false a b c = other

pub number_is : (k n : ℕ) → cause_number k ≡ n → n ≤ 11 → (k ≡ n) × (1 ≤ k)
number_is k n h few = number_by (λ i. i ≡ n → (k ≡ n) × (1 ≤ k)) k (λ l u e. (e, l)) (λ s e. absurd (omega arith)) (λ e. absurd (omega arith)) h

pub number_listed : (k : ℕ) → (k ≡ 20 → ⊥) → (cause_number k ≡ 18 → ⊥) → (1 ≤ cause_number k) × (cause_number k ≤ 11)
number_listed k there = number_by (λ i. (i ≡ 18 → ⊥) → (1 ≤ i) × (i ≤ 11)) k (λ l u z. (l, u)) (λ s z. absurd (there s)) (λ z. absurd (z refl))

module _ (k : ℕ) (o : Order) (g : Registers) (m : List ℕ) (a : ℕ) (p : ProtectList) where
  -- 8 to 11 name words
  pub named_words : 8 ≤ k → k ≤ 11 → named_for k o g m a p ≡ words_read (operands_read o g.float g.general g.status.selector m a)
  unfolding named_for
  named_words l u =
      rw (ne_eqb k 5 (λ z. omega arith), ne_eqb k 6 (λ z. omega arith), ne_eqb k 7 (λ z. omega arith), le-leb 8 k l, le-leb k 11 u)

  -- what is none of 5 to 11 names nothing
  pub named_none : (5 ≤ k → k ≤ 11 → ⊥) → named_for k o g m a p ≡ Named.Nothing
  unfolding named_for
  named_none h = cases (leb 8 k) refl
    where
      not_one : (n : ℕ) → 5 ≤ n → n ≤ 11 → eqb k n ≡ false
      not_one n l u = ne_eqb k n (λ z. h (omega arith) (omega arith))

      cases : (x : Bool) → leb 8 k ≡ x → named_for k o g m a p ≡ Named.Nothing
      cases false e = rw (not_one 5 (omega arith) (omega arith), not_one 6 (omega arith) (omega arith), not_one 7 (omega arith) (omega arith), e)
      cases true e =
          let past : leb k 11 ≡ false = high (leb k 11) refl (leb-true 8 k e) in
          rw (not_one 5 (omega arith) (omega arith), not_one 6 (omega arith) (omega arith), not_one 7 (omega arith) (omega arith), e, past)
        where
          high : (x : Bool) → leb k 11 ≡ x → 8 ≤ k → x ≡ false
          high false b l = refl
          high true b l = absurd (h (omega arith) (leb-true k 11 b))
