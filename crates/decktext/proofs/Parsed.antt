-- The values of a line, parsed one after the other: what holds between two values, and its laws (on, bad).
use Prim.Native.Nat.{ℕ, ◌+◌, ◌≤◌, ◌<◌}
use mathlib.Core.Path.{◌≡◌, refl, ap, ◌∙◌}
use mathlib.Core.Bool.{Bool, true, false}
use mathlib.Core.List.{List, [], ◌∷◌, ◌++◌}
use native.Mathlib.Omega.{arith}
use native.Mathlib.Numerals.{add-one}
use lib.Dec.{eqb}
use lib.ListN.{length, take, set, length-set}
use lib.Seq.{append_snoc, take-suc-set}
use borrow.Author.Tests.{eqb-true, eqb-false}
use Rattle.hexfloat.specs.Answer.{Answer, gives, stops, and_then}
use Rattle.hexfloat.proofs.Answers.{never, then_by, then_gives}
use Rattle.decktext.specs.Text.{values_of}
use Rattle.decktext.specs.Walk.{Stretch}
use Rattle.decktext.proofs.Answers.{Is16, Only16, only_refused}
use Rattle.decktext.proofs.Lines.{part, value_ended, value_last, some_value}

-- a value by its place, and whether it ends the line
abbrev pub Kind : Type 0
Kind = ℕ → Bool → List ℕ → Answer ℕ

abbrev pub parsed : Kind → ℕ → List (List ℕ) → Answer (List ℕ)
parsed k i [] = stops 16
parsed k i (v ∷ []) = and_then (k i true v) (λ x. gives (x ∷ []))
parsed k i (v ∷ w ∷ vs) = and_then (k i false v) (λ x. and_then (parsed k (i + 1) (w ∷ vs)) (λ xs. gives (x ∷ xs)))

-- n places, the last of which alone ends the line; every fault is a 16
pub record Placed (k : Kind) (n : ℕ) : Type 0 where
  pub last : (i : ℕ) (v : List ℕ) (x : ℕ) → k i true v ≡ gives x → i + 1 ≡ n
  pub inner : (i : ℕ) (v : List ℕ) (x : ℕ) → k i false v ≡ gives x → i + 1 ≡ n → ⊥
  pub only : (i : ℕ) (b : Bool) (v : List ℕ) → Only16 (k i b v)

pub parsed_only : {k : Kind} {n : ℕ} → Placed k n → (i : ℕ) (vs : List (List ℕ)) → Only16 (parsed k i vs)
parsed_only p i [] = refl
parsed_only {k} p i (v ∷ []) = then_by Is16 (k i true v) (λ x. gives (x ∷ [])) (p.only i true v) (λ x. tt)
parsed_only {k} p i (v ∷ w ∷ vs) =
    then_by Is16 (k i false v) (λ x. and_then (parsed k (i + 1) (w ∷ vs)) (λ xs. gives (x ∷ xs))) (p.only i false v)
    (λ x. then_by Is16 (parsed k (i + 1) (w ∷ vs)) (λ xs. gives (x ∷ xs)) (parsed_only p (i + 1) (w ∷ vs)) (λ xs. tt))

parsed_length : {k : Kind} {n : ℕ} → Placed k n → (i : ℕ) (vs : List (List ℕ)) (xs : List ℕ) → parsed k i vs ≡ gives xs → i + length vs ≡ n
parsed_length p i [] xs h = never h
parsed_length {k} p i (v ∷ []) xs h =
    let q = then_gives (k i true v) (λ x. gives (x ∷ [])) h in
    let e = p.last i v q.0 q.1 in
    omega arith
parsed_length {k} p i (v ∷ w ∷ vs) xs h =
    let q = then_gives (k i false v) (λ x. and_then (parsed k (i + 1) (w ∷ vs)) (λ xs. gives (x ∷ xs))) h in
    let r = then_gives (parsed k (i + 1) (w ∷ vs)) (λ xs. gives (q.0 ∷ xs)) q.2 in
    let e = parsed_length p (i + 1) (w ∷ vs) r.0 r.1 in
    omega arith

-- a line with another count of values
pub wrong_count : {k : Kind} {n : ℕ} → Placed k n → (vs : List (List ℕ)) → (length vs ≡ n → ⊥) → parsed k 0 vs ≡ stops 16
wrong_count {k} p vs h =
    only_refused (parsed k 0 vs) (parsed_only p 0 vs) (λ xs e. h (let q = parsed_length p 0 vs xs e in omega arith))

-- more values after some
abbrev more : List ℕ → Answer (List ℕ) → Answer (List ℕ)
more ys (gives xs) = gives (ys ++ xs)
more ys (stops n) = stops n

more_next : (ys : List ℕ) (x : ℕ) (a : Answer (List ℕ)) → more ys (and_then a (λ xs. gives (x ∷ xs))) ≡ more (ys ++ (x ∷ [])) a
more_next ys x (gives xs) = rw append_snoc
more_next ys x (stops n) = refl

-- i of the n values of the line from `at` to `end` are taken; the next one begins at `from`
pub record Taking (k : Kind) (n : ℕ) (t : List ℕ) (at end from i : ℕ) (values : List ℕ) : Type 0 where
  pub within : i ≤ n
  pub few : n ≤ 4
  pub size : length values ≡ 4
  pub inside : i < n → from ≤ end
  pub going : i < n → parsed k 0 (values_of (part at end t)) ≡ more (take i values) (parsed k i (values_of (part from end t)))
  pub taken : 0 < n → i ≡ n → parsed k 0 (values_of (part at end t)) ≡ gives (take n values)

module _ {k : Kind} {n : ℕ} {t : List ℕ} {at end from i : ℕ} {values : List ℕ} {to : ℕ}
    (r : Taking k n t at end from i values) (l : i < n) (s : Stretch t from end 32 to) (fits : end ≤ length t) where
  on_last : Placed k n → (x : ℕ) → to ≡ end → k i true (part from to t) ≡ gives x → Taking k n t at end (to + 1) (i + 1) (set values i x)
  on_last p x e h =
      let z = p.last i (part from to t) x h in
      let q : parsed k i (values_of (part from end t)) ≡ gives (x ∷ []) = rw (value_last s fits e, h) in
      let f : i < length values = omega (arith, r.size, r.few) in
      record {
        within = omega arith;
        few = r.few;
        size = length-set values i x ∙ r.size;
        inside = λ m. absurd (omega arith);
        going = λ m. absurd (omega arith);
        taken = λ m d. r.going l ∙ rw (q, ← z, add-one, take-suc-set values i x f);
      }

  on_inner : Placed k n → (x : ℕ) → to < end → k i false (part from to t) ≡ gives x → Taking k n t at end (to + 1) (i + 1) (set values i x)
  on_inner p x e h =
      let v = some_value (part (to + 1) end t) in
      let q : parsed k i (values_of (part from end t)) ≡ and_then (parsed k (i + 1) (values_of (part (to + 1) end t))) (λ xs. gives (x ∷ xs)) = rw (value_ended s fits e, v.2, h) in
      let f : i < length values = omega (arith, r.size, r.few) in
      let no = p.inner i (part from to t) x h in
      let w : take i values ++ (x ∷ []) ≡ take (i + 1) (set values i x) = rw (add-one, take-suc-set values i x f) in
      record {
        within = omega arith;
        few = r.few;
        size = length-set values i x ∙ r.size;
        inside = λ m. omega arith;
        going = λ m. r.going l ∙ ap (λ (a : Answer (List ℕ)). more (take i values) a) q ∙ more_next (take i values) x (parsed k (i + 1) (values_of (part (to + 1) end t))) ∙ ap (λ (ys : List ℕ). more ys (parsed k (i + 1) (values_of (part (to + 1) end t)))) w;
        taken = λ m d. absurd (no d);
      }

  on_by : Placed k n → (x : ℕ) (b : Bool) → eqb to end ≡ b → k i b (part from to t) ≡ gives x → Taking k n t at end (to + 1) (i + 1) (set values i x)
  on_by p x true e h = on_last p x (eqb-true to end e) h
  on_by p x false e h = on_inner p x (let ne = eqb-false to end e in omega (arith, s.high)) h

  pub on : Placed k n → (x : ℕ) → k i (eqb to end) (part from to t) ≡ gives x → Taking k n t at end (to + 1) (i + 1) (set values i x)
  on p x h = on_by p x (eqb to end) refl h

  bad_by : (b : Bool) → eqb to end ≡ b → k i b (part from to t) ≡ stops 16 → parsed k 0 (values_of (part at end t)) ≡ stops 16
  bad_by true e h =
      let q : parsed k i (values_of (part from end t)) ≡ stops 16 = rw (value_last s fits (eqb-true to end e), h) in
      r.going l ∙ rw q
  bad_by false e h =
      let ne = eqb-false to end e in
      let m : to < end = omega (arith, s.high) in
      let v = some_value (part (to + 1) end t) in
      let q : parsed k i (values_of (part from end t)) ≡ stops 16 = rw (value_ended s fits m, v.2, h) in
      r.going l ∙ rw q

  -- a value that is no such value
  pub bad : k i (eqb to end) (part from to t) ≡ stops 16 → parsed k 0 (values_of (part at end t)) ≡ stops 16
  bad h = bad_by (eqb to end) refl h
