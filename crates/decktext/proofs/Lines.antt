-- Lines and values cut at their first LF or blank.
use mathlib.Core.Path.{◌≡◌, refl, sym, ap, ◌∙◌}
use mathlib.Core.Bool.{Bool, true, false, cond}
use mathlib.Core.List.{List, [], ◌∷◌}
use Prim.Native.Nat.{ℕ, zero, suc, ◌+◌, ◌-◌, ◌≤◌, ◌<◌, suc-le-suc, zero-le}
use native.Mathlib.Nat.{zero-lt-suc, le_of_suc-le-suc, le_refl}
use native.Mathlib.Omega.{arith}
use Rattle.std.proofs.lemmas.List.{drop-take}
use lib.ListN.{length, get_or, take, drop, drop_of_length-le}
use lib.Dec.{eqb}
use lib.Seq.{take-take, take_all, drop-drop, get_or-take, get_or-drop, slice, length-slice}
use Rattle.std.specs.List.{AllWithin, HoldsAt}
use borrow.Author.Tests.{eq-eqb, ne_eqb}
use Rattle.decktext.specs.Text.{ended, unended, lines_of, prefixed, values_of}
use Rattle.decktext.specs.Walk.{Stretch}

-- n elements without b at the front
abbrev Without : List ℕ → ℕ → ℕ → Type 0
Without s n b = (k : ℕ) → k < n → get_or s k 0 ≡ b → ⊥

tail : (x b n : ℕ) (s : List ℕ) → Without (x ∷ s) (suc n) b → Without s n b
tail x b n s w k h e = w (suc k) (suc-le-suc h) e

lines_cut : (s : List ℕ) (n : ℕ) → n < length s → Without s n 10 → get_or s n 0 ≡ 10 → lines_of s ≡ ended (take n s) ∷ lines_of (drop (suc n) s)
unfolding lines_of
lines_cut [] n l w e = absurd (omega arith)
lines_cut (x ∷ s) zero l w e = rw (eq-eqb x 10 e)
lines_cut (x ∷ s) (suc n) l w e = rw (ne_eqb x 10 (w 0 (zero-lt-suc n)), lines_cut s n (le_of_suc-le-suc l) (tail x _ n s w) e)

lines_whole : (s : List ℕ) → 0 < length s → Without s (length s) 10 → lines_of s ≡ unended s ∷ []
unfolding lines_of
lines_whole [] l w = absurd (omega arith)
lines_whole (x ∷ []) l w = rw (ne_eqb x 10 (w 0 (zero-lt-suc 0)))
lines_whole (x ∷ y ∷ s) l w = rw (ne_eqb x 10 (w 0 (zero-lt-suc (suc (length s)))), lines_whole (y ∷ s) (zero-lt-suc (length s)) (tail x 10 _ (y ∷ s) w))

values_cut : (s : List ℕ) (n : ℕ) → n < length s → Without s n 32 → get_or s n 0 ≡ 32 → values_of s ≡ take n s ∷ values_of (drop (suc n) s)
unfolding values_of
values_cut [] n l w e = absurd (omega arith)
values_cut (x ∷ s) zero l w e = rw (eq-eqb x 32 e)
values_cut (x ∷ s) (suc n) l w e = rw (ne_eqb x 32 (w 0 (zero-lt-suc n)), values_cut s n (le_of_suc-le-suc l) (tail x _ n s w) e)

values_whole : (s : List ℕ) → Without s (length s) 32 → values_of s ≡ s ∷ []
unfolding values_of
values_whole [] w = refl
values_whole (x ∷ s) w = rw (ne_eqb x 32 (w 0 (zero-lt-suc (length s))), values_whole s (tail x 32 _ s w))

-- the bytes from a up to, not including, e
abbrev pub part : ℕ → ℕ → List ℕ → List ℕ
part a e t = take (e - a) (drop a t)

part_slice : (a e : ℕ) (t : List ℕ) → a ≤ e → part a e t ≡ slice a e t
part_slice a e t h = sym (drop-take a (e - a) t) ∙ (let q : a + (e - a) ≡ e = omega arith in rw q)

pub length_part : (a e : ℕ) (t : List ℕ) → a ≤ e → e ≤ length t → length (part a e t) ≡ e - a
length_part a e t h k = rw (part_slice a e t h) (length-slice a e t k)

module _ {t : List ℕ} {from end b r : ℕ} (s : Stretch t from end b r) (inside : end ≤ length t) where
  -- the stretch within the part of the text up to `end`
  part_without : Without (slice from end t) (r - from) b
  part_without k h e =
      let q : from + k < end = omega (arith, s.high, s.low) in
      s.before (from + k) (omega (arith, s.low)) (omega arith) (sym (get_or-drop from (take end t) k 0 ∙ get_or-take end t (from + k) 0 q) ∙ e)

  part-take : take (r - from) (slice from end t) ≡ slice from r t
  part-take =
      sym (drop-take from (r - from) (take end t))
      ∙ (let q : from + (r - from) ≡ r = omega (arith, s.low) in rw (q, take-take r end t s.high))

  part-drop : drop (suc (r - from)) (slice from end t) ≡ slice (r + 1) end t
  part-drop = drop-drop (suc (r - from)) from (take end t) ∙ (let q : from + suc (r - from) ≡ r + 1 = omega (arith, s.low) in rw q)

  part_found : r < end → get_or (slice from end t) (r - from) 0 ≡ b
  part_found h =
      let q : from + (r - from) ≡ r = omega (arith, s.low) in
      get_or-drop from (take end t) (r - from) 0 ∙ rw (q, get_or-take end t r 0 h) (s.found h)

  part_length : length (slice from end t) ≡ end - from
  part_length = length-slice from end t inside

  part-all : r ≡ end → Without (slice from end t) (length (slice from end t)) b
  part-all q k h e = part_without k (let z = part_length in omega arith) e

-- the whole text from a place on, as a part
rest_part : (t : List ℕ) (at : ℕ) → drop at t ≡ slice at (length t) t
rest_part t at = rw (take_all (length t) t (le_refl (length t)))

module _ {t : List ℕ} {at e : ℕ} (s : Stretch t at (length t) 10 e) where
  -- a line that an LF ends, and those after it
  pub line_ended : e < length t → lines_of (drop at t) ≡ ended (part at e t) ∷ lines_of (drop (e + 1) t)
  line_ended h =
      rw (part_slice at e t s.low, rest_part t at, rest_part t (e + 1), ← part-take s (le_refl (length t)), ← part-drop s (le_refl (length t)))
      (lines_cut (slice at (length t) t) (e - at) (let z = part_length s (le_refl (length t)) in omega (arith, s.low)) (part_without s (le_refl (length t))) (part_found s (le_refl (length t)) h))

  pub line_unended : at < length t → e ≡ length t → lines_of (drop at t) ≡ unended (slice at (length t) t) ∷ []
  line_unended h q =
      rw (rest_part t at)
      (lines_whole (slice at (length t) t) (let z = part_length s (le_refl (length t)) in omega arith) (part-all s (le_refl (length t)) q))

pub no_line : (t : List ℕ) (at : ℕ) → length t ≤ at → lines_of (drop at t) ≡ []
unfolding lines_of
no_line t at h = rw (drop_of_length-le t h)

module _ {t : List ℕ} {from end r : ℕ} (s : Stretch t from end 32 r) (inside : end ≤ length t) where
  -- a value that a blank ends, and those after it
  pub value_ended : r < end → values_of (part from end t) ≡ part from r t ∷ values_of (part (r + 1) end t)
  value_ended h =
      rw (part_slice from end t (omega (arith, s.low)), part_slice from r t s.low, part_slice (r + 1) end t (omega arith), ← part-take s inside, ← part-drop s inside)
      (values_cut (slice from end t) (r - from) (let z = part_length s inside in omega (arith, s.low)) (part_without s inside) (part_found s inside h))

  pub value_last : r ≡ end → values_of (part from end t) ≡ part from r t ∷ []
  value_last q = rw (q, part_slice from end t (omega (arith, s.low))) (values_whole (slice from end t) (part-all s inside q))

-- there is always a value
pub some_value : (s : List ℕ) → (v : List ℕ) × (vs : List (List ℕ)) × (values_of s ≡ v ∷ vs)
unfolding values_of
some_value [] = ([], [], refl)
some_value (x ∷ s) = by (eqb x 32) (some_value s)
  where
    by : (t : Bool) → ((v : List ℕ) × (vs : List (List ℕ)) × (values_of s ≡ v ∷ vs)) → (v : List ℕ) × (vs : List (List ℕ)) × (cond t ([] ∷ values_of s) (prefixed x (values_of s)) ≡ v ∷ vs)
    by true q = ([], values_of s, refl)
    by false q = (x ∷ q.0, q.1, rw q.2)

-- ---- a search through a part of the text: what it says where it finds b, and where it does not

module _ (t : List ℕ) (from end b : ℕ) (low : from ≤ end) where
  in_part : (k : ℕ) → k < end - from → get_or (part from end t) k 0 ≡ get_or t (from + k) 0
  in_part k h = get_or-take (end - from) (drop from t) k 0 h ∙ get_or-drop from t k 0

  not_before : (m : ℕ) → m ≤ end - from → AllWithin (λ x. x ≡ b → ⊥) (part from end t) 0 m → (j : ℕ) → j < from + m → from ≤ j → get_or t j 0 ≡ b → ⊥
  not_before m l a j h k e =
      let there : from + (j - from) ≡ j = omega arith in
      a (j - from) 0 zero-le (omega arith) (in_part (j - from) (omega arith) ∙ ap (λ (i : ℕ). get_or t i 0) there ∙ e)

  pub found : (k : ℕ) → k < end - from → HoldsAt (λ x. x ≡ b) (part from end t) k → AllWithin (λ x. x ≡ b → ⊥) (part from end t) 0 k → Stretch t from end b (from + k)
  found k h e a = record { low = omega arith; high = omega arith; before = not_before k (omega arith) a; found = λ l. sym (in_part k h) ∙ e 0 }

  pub none : AllWithin (λ x. x ≡ b → ⊥) (part from end t) 0 (end - from) → Stretch t from end b end
  none a = record { low = low; high = le_refl end; before = λ j h. not_before (end - from) (le_refl _) a j (omega arith); found = λ l. absurd (omega arith) }
