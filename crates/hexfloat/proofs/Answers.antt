-- Answers taken apart: what an answer that gives something says of the checks before it.
use Prim.Native.Nat.{ℕ, ◌≤◌}
use mathlib.Core.Path.{◌≡◌, refl}
use mathlib.Core.Bool.{Bool, true, false, cond, ◌&&◌}
use lib.Dec.{eqb}
use native.Mathlib.Omega.{arith}
use borrow.Author.Tests.{eqb-true, eqb-false}
use Rattle.hexfloat.specs.Answer.{Answer, gives, stops, mapped, provided, checked, and_then}
use Rattle.hexfloat.specs.Theorems.{Numbered, given, stopped}

pub gives_inj : {A : Type 0} {x y : A} → gives x ≡ gives y → x ≡ y
gives_inj h = cc

pub never : {A : Type 0} {n : ℕ} {x : A} {C : Type 0} → stops n ≡ gives x → C
never h = let z : ◌≡◌ {A = ℕ} 0 1 = cc in absurd (omega arith)

pub stops_inj : {A : Type 0} {n m : ℕ} → ◌≡◌ {A = Answer A} (stops n) (stops m) → n ≡ m
stops_inj h = cc

-- two tests that both pass
pub both : (a b : Bool) → (a && b) ≡ true → (a ≡ true) × (b ≡ true)
both true b h = (refl, h)
both false b h = let z : ◌≡◌ {A = Bool} false true = h in absurd (let y : ◌≡◌ {A = ℕ} 0 1 = cc in omega arith)

pub provided_gives : {A : Type 0} {x : A} (ok : Bool) (n : ℕ) (rest : Answer A) → provided ok n rest ≡ gives x → (ok ≡ true) × (rest ≡ gives x)
provided_gives true n rest h = (refl, h)
provided_gives false n rest h = never h

pub checked_gives : {A : Type 0} {x : A} (k : ℕ) (rest : Answer A) → checked k rest ≡ gives x → (k ≡ 0) × (rest ≡ gives x)
checked_gives k rest h = let q = provided_gives (eqb k 0) k rest h in (eqb-true k 0 q.0, q.1)

pub mapped_gives : {A B : Type 0} {y : B} (f : A → B) (a : Answer A) → mapped f a ≡ gives y → (x : A) × (a ≡ gives x) × (f x ≡ y)
mapped_gives f (gives x) h = (x, refl, gives_inj h)
mapped_gives f (stops n) h = never h

pub then_gives : {A B : Type 0} {y : B} (a : Answer A) (f : A → Answer B) → and_then a f ≡ gives y → (x : A) × (a ≡ gives x) × (f x ≡ gives y)
then_gives (gives x) f h = (x, refl, h)
then_gives (stops n) f h = never h

-- answers that are the same where the checks before them pass
pub provided-same : {A : Type 0} (ok : Bool) (n : ℕ) (x y : Answer A) → (ok ≡ true → x ≡ y) → provided ok n x ≡ provided ok n y
provided-same true n x y h = h refl
provided-same false n x y h = refl

pub checked-same : {A : Type 0} (k : ℕ) (x y : Answer A) → (k ≡ 0 → x ≡ y) → checked k x ≡ checked k y
checked-same k x y h = provided-same (eqb k 0) k x y (λ e. h (eqb-true k 0 e))

pub then_same : {A B : Type 0} (a : Answer A) (f g : A → Answer B) → ((x : A) → a ≡ gives x → f x ≡ g x) → and_then a f ≡ and_then a g
then_same (gives x) f g h = h x refl
then_same (stops n) f g h = refl

-- an answer whose stop, if it is one, has a number that P holds of
abbrev pub StopsBy : {A : Type 0} → (ℕ → Type 0) → Answer A → Type 0
StopsBy P (gives x) = Unit {0}
StopsBy P (stops n) = P n

module _ (P : ℕ → Type 0) where
  pub provided_by : {A : Type 0} (ok : Bool) (n : ℕ) (rest : Answer A) → P n → StopsBy P rest → StopsBy P (provided ok n rest)
  provided_by true n rest h r = r
  provided_by false n rest h r = h

  pub checked_by : {A : Type 0} (k : ℕ) (rest : Answer A) → ((k ≡ 0 → ⊥) → P k) → StopsBy P rest → StopsBy P (checked k rest)
  checked_by k rest h r = cases (eqb k 0) refl
    where
      cases : (b : Bool) → eqb k 0 ≡ b → StopsBy P (provided b k rest)
      cases true e = r
      cases false e = h (eqb-false k 0 e)

  pub mapped_by : {A B : Type 0} (f : A → B) (a : Answer A) → StopsBy P a → StopsBy P (mapped f a)
  mapped_by f (gives x) r = tt
  mapped_by f (stops n) r = r

  pub then_by : {A B : Type 0} (a : Answer A) (f : A → Answer B) → StopsBy P a → ((x : A) → StopsBy P (f x)) → StopsBy P (and_then a f)
  then_by (gives x) f r h = h x
  then_by (stops n) f r h = r

  pub cond_by : {A : Type 0} (b : Bool) (x y : Answer A) → StopsBy P x → StopsBy P y → StopsBy P (cond b x y)
  cond_by true x y p q = p
  cond_by false x y p q = q

  pub numbered_by : {A : Type 0} {lo hi : ℕ} {a : Answer A} → ((n : ℕ) → lo ≤ n → n ≤ hi → P n) → Numbered lo hi a → StopsBy P a
  numbered_by h given = tt
  numbered_by h (stopped {n} l u) = h n l u
