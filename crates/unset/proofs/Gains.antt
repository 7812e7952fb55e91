-- What is left of the search: the bits still to gain, and the places that wait. A place waits only when it gains a bit, so each place that is taken up
-- leaves less, and no more places are taken up than there are bits, that is, places times registers.
use Prim.Native.Nat.{ℕ, zero, suc, ◌+◌, ◌-◌, ◌*◌, ◌/◌, ◌%◌, ◌^◌, ◌<◌, ◌≤◌, max}
use mathlib.Core.Path.{◌≡◌, refl, ap, ap₂, ◌∙◌}
use mathlib.Core.List.{List, [], ◌∷◌}
use mathlib.Core.Logic.{◌⊎◌, inl, inr}
use mathlib.Core.Bool.{Bool, true, false, cond}
use lib.Bits.{bit_or, or_step}
use lib.Count.{ones, ones_step, ones-le}
use lib.Dec.{eqb}
use lib.ListN.{length, get_or, set, length-set}
use Rattle.std.proofs.lemmas.List.{length-take-le}
use native.Mathlib.Nat.{pow-suc}
use native.Mathlib.Omega.{arith}
use borrow.Author.Tests.{eqb-false}
use Rattle.unset.specs.declared.search.Search.{Search}
use Rattle.unset.specs.Search.{places, word_at, pushed, arrived, popped, Stacked, top}
use Rattle.unset.proofs.Stack.{joined, stacked-joined, pushed_words, pushed_top}

-- how many bits some words have
unfoldable pub gained : List ℕ → ℕ
gained [] = 0
gained (w ∷ ws) = ones w + gained ws

-- of 24 bits a place
unfoldable pub left : Search → ℕ
left s = (places * 24 - gained s.unwritten) + top s

-- a place is taken from the stack
pub left_popped : (s : Search) → 0 < top s → left (popped s) < left s
unfolding left
left_popped s h = omega (arith, length-take-le (top s - 1) s.stack.items (omega arith))

-- where nothing waits
pub left_calm : (s : Search) → top s ≡ 0 → left s ≤ places * 24
unfolding left
left_calm s e = omega arith

-- the bits of a word, from its lowest digit
ones_joined : (q r : ℕ) → r < 2 → ones (q * 2 + r) ≡ r + ones q
ones_joined q r l =
    let half : (q * 2 + r) / 2 ≡ q = omega arith in
    let odd : (q * 2 + r) % 2 ≡ r = omega arith in
    ones_step (q * 2 + r) ∙ ap₂ (λ (x y : ℕ). x + ones y) odd half

-- a word that is joined with another stays, or has more bits
grows : (k a b : ℕ) → a < 2 ^ k → b < 2 ^ k → (bit_or a b ≡ a) ⊎ (ones a < ones (bit_or a b))
grows zero a b l m =
    let za : a ≡ 0 = omega arith in
    let zb : b ≡ 0 = omega arith in
    inl (rw (za, zb))
grows (suc k) a b l m =
    let la : a < 2 ^ k * 2 = rw (pow-suc 2 k) at l in
    let lb : b < 2 ^ k * 2 = rw (pow-suc 2 k) at m in
    cases (grows k (a / 2) (b / 2) (omega arith) (omega arith))
  where
    joins : ones (bit_or a b) ≡ max (a % 2) (b % 2) + ones (bit_or (a / 2) (b / 2))
    joins = ap ones (or_step a b) ∙ ones_joined (bit_or (a / 2) (b / 2)) (max (a % 2) (b % 2)) (omega arith)

    -- the lowest digit, where the others stay
    lowest : (x y : ℕ) → a % 2 ≡ x → b % 2 ≡ y → bit_or (a / 2) (b / 2) ≡ a / 2 → (bit_or a b ≡ a) ⊎ (ones a < ones (bit_or a b))
    lowest zero (suc y) ea eb e =
        let one : max (a % 2) (b % 2) ≡ 1 = omega arith in
        inr (omega (arith, ones_step a, joins, ap ones e, one, ea))
    lowest zero zero ea eb e =
        let none : max (a % 2) (b % 2) ≡ a % 2 = omega arith in
        inl (or_step a b ∙ ap₂ (λ (q r : ℕ). q * 2 + r) e none ∙ omega arith)
    lowest (suc x) y ea eb e =
        let same : max (a % 2) (b % 2) ≡ a % 2 = omega arith in
        inl (or_step a b ∙ ap₂ (λ (q r : ℕ). q * 2 + r) e same ∙ omega arith)

    cases : (bit_or (a / 2) (b / 2) ≡ a / 2) ⊎ (ones (a / 2) < ones (bit_or (a / 2) (b / 2))) → (bit_or a b ≡ a) ⊎ (ones a < ones (bit_or a b))
    cases (inl e) = lowest (a % 2) (b % 2) refl refl e
    cases (inr h) = inr (omega (arith, ones_step a, joins, h))

gains : (a b : ℕ) → a < 2 ^ 24 → b < 2 ^ 24 → eqb (bit_or a b) a ≡ false → ones a < ones (bit_or a b)
gains a b l m e = cases (grows 24 a b l m)
  where
    cases : (bit_or a b ≡ a) ⊎ (ones a < ones (bit_or a b)) → ones a < ones (bit_or a b)
    cases (inl same) = absurd (eqb-false (bit_or a b) a e same)
    cases (inr more) = more

-- one word changes
gained_set : (u : List ℕ) (i v : ℕ) → i < length u → gained (set u i v) + ones (get_or u i 0) ≡ gained u + ones v
unfolding gained
gained_set [] i v h = absurd (omega arith)
gained_set (x ∷ u) zero v h = omega arith
gained_set (x ∷ u) (suc i) v h = omega (arith, gained_set u i v (omega arith))

-- there are 24 bits a word
gained_most : (u : List ℕ) → ((i : ℕ) → get_or u i 0 < 2 ^ 24) → gained u ≤ length u * 24
unfolding gained
gained_most [] k = omega arith
gained_most (x ∷ u) k = omega (arith, ones-le 24 x (k 0), gained_most u (λ i. k (suc i)))

-- registers arrive: a bit more is gained for a place that waits
pub left_arrived : (n i b : ℕ) (s : Search) → Stacked n s → i < n * 2 → n ≤ 4096 → b < 2 ^ 24 → left (arrived i b s) ≤ left s
unfolding arrived left
left_arrived n i b s st h few k = cases (eqb (bit_or (word_at s i) b) (word_at s i)) refl
  where
    cases : (t : Bool) → eqb (bit_or (word_at s i) b) (word_at s i) ≡ t → left (cond t s (pushed i (joined i b s))) ≤ left s
    cases true e = omega arith
    cases false e =
        let v = bit_or (word_at s i) b in
        rw (pushed_words i (joined i b s))
        (omega (
          arith,
          pushed_top i (joined i b s),
          gains (word_at s i) b (st.small i) k e,
          gained_set s.unwritten i v (omega (arith, st.words)),
          gained_most (set s.unwritten i v) (stacked-joined n i b s st (omega arith) k).small,
          length-set s.unwritten i v,
          st.words,
        ))
