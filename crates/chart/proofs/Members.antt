-- What stands in what is listed for one number after the other, and that it rises.
use Prim.Native.Nat.{ℕ, zero, suc, ◌+◌, ◌<◌, ◌≤◌}
use mathlib.Core.Path.{◌≡◌, refl, sym, subst}
use mathlib.Core.List.Memᴰ
use mathlib.Core.List.{List, [], ◌∷◌, ◌++◌}
use mathlib.Core.Logic.{⊎_elim}
use native.Mathlib.Omega.{arith}
use Rattle.hexfloat.proofs.Trichotomy.{below_or_not}
use Rattle.orders.specs.declared.order.Order.{Order}
use Rattle.chart.specs.Chart.{listed_from}
use Rattle.chart.specs.Piece.{cells_of}
use Rattle.chart.specs.Theorems.{In, Before, Rises}

-- the number that an order is listed for
pub record ListedFor (o : Order) (i m : ℕ) (f : ℕ → List Order) : Type 0 where
  pub number : ℕ
  pub first : i ≤ number
  pub last : number < i + m
  pub listed : In o (f number)

pub listed_for : (o : Order) (m i : ℕ) (f : ℕ → List Order) → In o (listed_from i m f) → ListedFor o i m f
unfolding listed_from
listed_for o zero i f h = absurd (Memᴰ.not-nil h)
listed_for o (suc m) i f h = ⊎_elim here (λ k. there (listed_for o m (suc i) f k)) (Memᴰ.append_cases (f i) h)
  where
    here : In o (f i) → ListedFor o i (suc m) f
    here k = record { number = i; first = omega arith; last = omega arith; listed = k }

    there : ListedFor o (suc i) m f → ListedFor o i (suc m) f
    there r = record { number = r.number; first = omega (arith, r.first); last = omega (arith, r.last); listed = r.listed }

pub listed_in : (o : Order) (m i j : ℕ) (f : ℕ → List Order) → i ≤ j → j < i + m → In o (f j) → In o (listed_from i m f)
unfolding listed_from
listed_in o zero i j f l u h = absurd (omega arith)
listed_in o (suc m) i j f l u h =
    ⊎_elim
    (λ past. Memᴰ.append_right (f i) (listed_in o m (suc i) j f (omega arith) (omega arith) h))
    (λ here. let e : j ≡ i = omega arith in Memᴰ.append_left (listed_from (suc i) m f) (subst (λ (k : ℕ). In o (f k)) e h))
    (below_or_not i j)

-- two lists that rise, one before the other
rises_joined :
    (xs ys : List Order) → Rises xs → Rises ys → ((x y : Order) → In x xs → In y ys → Before (cells_of x) (cells_of y)) → Rises (xs ++ ys)
rises_joined [] ys p q cross = q
rises_joined (x ∷ xs) ys p q cross = (
  λ y h. ⊎_elim (p.0 y) (cross x y (Memᴰ.head refl)) (Memᴰ.append_cases xs h),
  rises_joined xs ys p.1 q (λ a b ha hb. cross a b (Memᴰ.tail ha) hb),
)

pub rises_listed :
    (m i : ℕ) (f : ℕ → List Order) → ((j : ℕ) → Rises (f j)) →
    ((j k : ℕ) → j < k → (x y : Order) → In x (f j) → In y (f k) → Before (cells_of x) (cells_of y)) → Rises (listed_from i m f)
unfolding listed_from
rises_listed zero i f each cross = tt
rises_listed (suc m) i f each cross =
    rises_joined (f i) (listed_from (suc i) m f) (each i) (rises_listed m (suc i) f each cross)
    (λ x y hx hy. let r = listed_for y m (suc i) f hy in cross i r.number (omega (arith, r.first)) x y hx r.listed)

-- no list comes before one that comes before it
before_once : (xs ys : List ℕ) → Before xs ys → Before ys xs → ⊥
before_once [] ys p q = p
before_once (x ∷ xs) [] p q = p
before_once (x ∷ xs) (y ∷ ys) p q =
    ⊎_elim
    (λ l. ⊎_elim (λ m. omega arith) (λ m. omega (arith, m.0)) q)
    (λ l. ⊎_elim (λ m. omega (arith, l.0)) (λ m. before_once xs ys l.1 m.1) q)
    p

-- of two lists that rise, each with the other's first order
same_first : (x y : Order) (xs ys : List Order) → Rises (x ∷ xs) → Rises (y ∷ ys) → In x (y ∷ ys) → In y (x ∷ xs) → x ≡ y
same_first x y xs ys p q h k =
    ⊎_elim
    (λ e. e)
    (λ later. ⊎_elim (λ e. sym e) (λ after. absurd (before_once (cells_of x) (cells_of y) (p.0 y after) (q.0 x later))) (Memᴰ.cases_cons k))
    (Memᴰ.cases_cons h)

-- what follows the first order of one list follows that of the other, if it is the same
rest_in : (x : Order) (xs ys : List Order) → Rises (x ∷ xs) → ((o : Order) → In o (x ∷ xs) → In o (x ∷ ys)) → (o : Order) → In o xs → In o ys
rest_in x xs ys p there o h =
    ⊎_elim
    (λ same. let b = subst (λ (z : Order). Before (cells_of x) (cells_of z)) same (p.0 o h) in absurd (before_once (cells_of x) (cells_of x) b b))
    (λ k. k)
    (Memᴰ.cases_cons (there o (Memᴰ.tail h)))

-- two lists that rise and have the same orders are the same
pub same_orders :
    (xs ys : List Order) → Rises xs → Rises ys → ((o : Order) → In o xs → In o ys) → ((o : Order) → In o ys → In o xs) → xs ≡ ys
same_orders [] [] p q there back = refl
same_orders [] (y ∷ ys) p q there back = absurd (Memᴰ.not-nil (back y (Memᴰ.head refl)))
same_orders (x ∷ xs) [] p q there back = absurd (Memᴰ.not-nil (there x (Memᴰ.head refl)))
same_orders (x ∷ xs) (y ∷ ys) p q there back =
    let e = same_first x y xs ys p q (there x (Memᴰ.head refl)) (back y (Memᴰ.head refl)) in
    let there' = rest_in x xs ys p (subst (λ (z : Order). (o : Order) → In o (x ∷ xs) → In o (z ∷ ys)) (sym e) there) in
    let back' = rest_in y ys xs q (subst (λ (z : Order). (o : Order) → In o (y ∷ ys) → In o (z ∷ xs)) e back) in
    rw (e, same_orders xs ys p.1 q.1 there' back')
