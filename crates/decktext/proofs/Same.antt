-- The same bytes: laws of the test.
use mathlib.Core.Path.{◌≡◌, refl, ap}
use mathlib.Core.Bool.{Bool, true, false}
use lib.Pointwise.{pointwise}
use mathlib.Core.List.{List, [], ◌∷◌}
use Prim.Native.Nat.{ℕ, ◌+◌, ◌<◌}
use native.Mathlib.Numerals.{add-one}
use native.Mathlib.Omega.{arith}
use lib.Seq.{drop-cons}
use lib.ListN.{length, get_or, drop}
use lib.Dec.{eqb}
use borrow.Author.Tests.{eqb-true, eq-eqb}
use Rattle.hexfloat.proofs.Answers.{both}
use Rattle.decktext.specs.Text.{same}

pub same_refl : (v : List ℕ) → same v v ≡ true
unfolding same
same_refl [] = refl
same_refl (x ∷ v) = rw (eq-eqb x x refl, same_refl v)

pub same_true : (v w : List ℕ) → same v w ≡ true → v ≡ w
unfolding same
same_true [] [] h = refl
same_true [] (y ∷ w) h = let z : ◌≡◌ {A = ℕ} 0 1 = cc in absurd (omega arith)
same_true (x ∷ v) [] h = let z : ◌≡◌ {A = ℕ} 0 1 = cc in absurd (omega arith)
same_true (x ∷ v) (y ∷ w) h =
    let a = both (eqb x y) (same v w) h in
    let p = eqb-true x y a.0 in
    let q = same_true v w a.1 in
    cc

same_false_by : (v w : List ℕ) (t : Bool) → same v w ≡ t → (v ≡ w → ⊥) → same v w ≡ false
same_false_by v w true e h = absurd (h (same_true v w e))
same_false_by v w false e h = e

pub same_false : (v w : List ℕ) → (v ≡ w → ⊥) → same v w ≡ false
same_false v w h = same_false_by v w (same v w) refl h

pub same_length : (v w : List ℕ) → (length v ≡ length w → ⊥) → same v w ≡ false
same_length v w h = same_false v w (λ e. h (ap length e))

-- the next element of a list
pub next : (v : List ℕ) (i : ℕ) → i < length v → drop i v ≡ get_or v i 0 ∷ drop (i + 1) v
next v i h = rw (add-one, drop-cons v i 0)

-- what `==` of two lists answers
pub same_pointwise : (v w : List ℕ) → pointwise eqb v w ≡ same v w
unfolding same
same_pointwise [] [] = refl
same_pointwise [] (y ∷ w) = refl
same_pointwise (x ∷ v) [] = refl
same_pointwise (x ∷ v) (y ∷ w) = rw (same_pointwise v w)

pub single : (v : List ℕ) → length v ≡ 1 → v ≡ get_or v 0 0 ∷ []
single [] h = absurd (omega arith)
single (x ∷ []) h = refl
single (x ∷ y ∷ v) h = absurd (omega arith)

pub same_none : (v : List ℕ) → length v ≡ 0 → same v [] ≡ true
unfolding same
same_none [] h = refl
same_none (x ∷ v) h = absurd (omega arith)
