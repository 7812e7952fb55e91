-- What is listed for one number after the other: cut, split, and two counts made one.
use Prim.Native.Nat.{ℕ, zero, suc, ◌+◌, ◌*◌, ◌-◌, ◌/◌, ◌%◌, ◌<◌, ◌≤◌}
use mathlib.Core.Path.{◌≡◌, refl, sym, ap, ◌∙◌}
use mathlib.Core.List.{List, [], ◌∷◌, ◌++◌, append_assoc, append-nil}
use lib.ListN.{length, take, drop}
use lib.Seq.{take_at, drop_at}
use native.Mathlib.Nat.{zero-add, add-zero, zero-mul, suc-mul}
use native.Mathlib.Omega.{arith}
use Rattle.chart.specs.Chart.{listed_from}
use Rattle.chart.proofs.Places.{row_of, rest_of}

module _ {A : Type 0} where
  pub listed_none : (m i : ℕ) (f : ℕ → List A) → ((j : ℕ) → i ≤ j → j < i + m → f j ≡ []) → listed_from i m f ≡ []
  unfolding listed_from
  listed_none zero i f h = refl
  listed_none (suc m) i f h = rw (h i (omega arith) (omega arith)) (listed_none m (suc i) f (λ j l u. h j (omega arith) (omega arith)))

  -- the same, number by number
  pub listed_alike : (m i k : ℕ) (f g : ℕ → List A) → ((j : ℕ) → j < m → f (i + j) ≡ g (k + j)) → listed_from i m f ≡ listed_from k m g
  unfolding listed_from
  listed_alike zero i k f g h = refl
  listed_alike (suc m) i k f g h =
      let first : f i ≡ g k = ap f (omega arith) ∙ h 0 (omega arith) ∙ ap g (omega arith) in
      let rest = listed_alike m (suc i) (suc k) f g (λ j l. ap f (omega arith) ∙ h (suc j) (omega arith) ∙ ap g (omega arith)) in
      rw (first, rest)

  -- so many, and then the others
  pub listed_joined : (m k i : ℕ) (f : ℕ → List A) → listed_from i (m + k) f ≡ listed_from i m f ++ listed_from (i + m) k f
  unfolding listed_from
  listed_joined zero k i f = rw (zero-add, add-zero)
  listed_joined (suc m) k i f =
      let e : suc m + k ≡ suc (m + k) = omega arith in
      let s : suc i + m ≡ i + suc m = omega arith in
      rw (e, listed_joined m k (suc i) f, s) (sym (append_assoc (f i) (listed_from (suc i) m f) (listed_from (i + suc m) k f)))

  pub listed_split : (s m i : ℕ) (f : ℕ → List A) → s ≤ m → listed_from i m f ≡ listed_from i s f ++ listed_from (i + s) (m - s) f
  listed_split s m i f h = let e : m ≡ s + (m - s) = omega arith in ap (λ (n : ℕ). listed_from i n f) e ∙ listed_joined s (m - s) i f

  -- nothing is listed from m on
  pub listed_cut :
      (m b : ℕ) (f g : ℕ → List A) → m ≤ b → ((j : ℕ) → j < m → f j ≡ g j) → ((j : ℕ) → m ≤ j → j < b → f j ≡ []) →
      listed_from 0 b f ≡ listed_from 0 m g
  listed_cut m b f g h same past =
      let none = listed_none (b - m) (0 + m) f (λ j l u. past j (omega arith) (omega arith)) in
      listed_split m b 0 f h
      ∙ ap (λ (l : List A). listed_from 0 m f ++ l) none
      ∙ append-nil (listed_from 0 m f)
      ∙ listed_alike m 0 0 f g (λ j l. rw zero-add (same j l))

  -- for each of k numbers from a on, each number below b: the k times b numbers from a times b on, taken apart by division
  pub listed_nested :
      (b k a : ℕ) (f : ℕ → ℕ → List A) → listed_from a k (λ x. listed_from 0 b (f x)) ≡ listed_from (a * b) (k * b) (λ p. f (p / b) (p % b))
  unfolding listed_from
  listed_nested b zero a f = rw zero-mul
  listed_nested b (suc k) a f =
      let e : suc k * b ≡ b + k * b = suc-mul k b ∙ omega arith in
      let s : a * b + b ≡ suc a * b = sym (suc-mul a b) in
      let here = listed_alike b 0 (a * b) (f a) (λ p. f (p / b) (p % b)) (λ j l. rw (zero-add, row_of a b j l, rest_of a b j l)) in
      rw (e, listed_joined b (k * b) (a * b) (λ p. f (p / b) (p % b)), s, here, listed_nested b k (suc a) f)

  -- one for each number
  module _ (g : ℕ → A) where
    pub singles_length : (m i : ℕ) → length (listed_from i m (λ j. g j ∷ [])) ≡ m
    unfolding listed_from
    singles_length zero i = refl
    singles_length (suc m) i = ap suc (singles_length m (suc i))

    pub singles_drop : (m s i : ℕ) → s ≤ m → drop s (listed_from i m (λ j. g j ∷ [])) ≡ listed_from (i + s) (m - s) (λ j. g j ∷ [])
    singles_drop m s i h =
        ap (drop s) (listed_split s m i (λ j. g j ∷ []) h)
        ∙ drop_at (listed_from i s (λ j. g j ∷ [])) (listed_from (i + s) (m - s) (λ j. g j ∷ [])) s (singles_length s i)

    pub singles_take : (m r i : ℕ) → r ≤ m → take r (listed_from i m (λ j. g j ∷ [])) ≡ listed_from i r (λ j. g j ∷ [])
    singles_take m r i h =
        ap (take r) (listed_split r m i (λ j. g j ∷ []) h)
        ∙ take_at (listed_from i r (λ j. g j ∷ [])) (listed_from (i + r) (m - r) (λ j. g j ∷ [])) r (singles_length r i)
