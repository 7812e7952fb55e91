-- The stack of the search keeps the places that wait, and the search has ever less to do.
use Rattle.std.specs.Prelude.{Option, Some, None, slice_get}
use Rattle.std.proofs.lemmas.Option.{slice_get_within, get_or_from_slice_get, slice_get_cases}
use Rattle.arrayvec.specs.ArrayVec.{ArrayVec}
use mathlib.Core.Logic.{◌⊎◌, inl, inr}
use Prim.Native.Nat.{ℕ, zero, suc, ◌+◌, ◌-◌, ◌*◌, ◌^◌, ◌<◌, ◌≤◌}
use mathlib.Core.Path.{◌≡◌, refl, sym, ap, ◌∙◌}
use mathlib.Core.List.{List, [], ◌∷◌, ◌++◌}
use mathlib.Core.Bool.{Bool, true, false, cond}
use lib.Bits.{bit_or, or_lt}
use lib.Dec.{eqb}
use lib.ListN.{length, get_or, set, take, length-set, get_or-append}
use Rattle.std.proofs.lemmas.List.{length-append, length-take-le, get_or-take}
use lib.Seq.{get_or-set_same, get_or-set_other, get_or-append_seam}
use native.Mathlib.Decide.{ℕ_discrete}
use native.Mathlib.Omega.{arith}
use Rattle.unset.specs.declared.search.Search.{Search}
use Rattle.unset.specs.Search.{places, search_of, word_at, waits, stacked, pushed, arrived, popped, trues, Stacked, top}
use Rattle.unset.proofs.Words.{never_both}

-- a place that did not wait waits
one_more : (w : List Bool) (i : ℕ) → i < length w → get_or w i false ≡ false → trues (set w i true) ≡ suc (trues w)
unfolding trues
one_more [] i h e = absurd (omega arith)
one_more (true ∷ w) zero h e = absurd (never_both refl e)
one_more (false ∷ w) zero h e = refl
one_more (true ∷ w) (suc i) h e = ap suc (one_more w i (omega arith) e)
one_more (false ∷ w) (suc i) h e = one_more w i (omega arith) e

-- a place that waited does not
one_less : (w : List Bool) (i : ℕ) → get_or w i false ≡ true → suc (trues (set w i false)) ≡ trues w
unfolding trues
one_less [] i e = absurd (never_both e refl)
one_less (true ∷ w) zero e = refl
one_less (false ∷ w) zero e = absurd (never_both e refl)
one_less (true ∷ w) (suc i) e = ap suc (one_less w i e)
one_less (false ∷ w) (suc i) e = one_less w i e

-- no more places wait than there are
at_most : (w : List Bool) → trues w ≤ length w
unfolding trues
at_most [] = omega arith
at_most (true ∷ w) = omega (arith, at_most w)
at_most (false ∷ w) = omega (arith, at_most w)

-- an empty stack: no place waits
pub none_waits : (n : ℕ) (s : Search) → Stacked n s → top s ≡ 0 → (i : ℕ) → waits s i ≡ false
none_waits n s st e i = cases (waits s i) refl
  where
    cases : (b : Bool) → waits s i ≡ b → b ≡ false
    cases true h = absurd (omega (arith, one_less s.waiting i h, st.count))
    cases false h = refl

-- where some place does not wait, the stack has room
pub room : (n i : ℕ) (s : Search) → Stacked n s → i < places → waits s i ≡ false → top s < places
room n i s st h e =
    let w = s.waiting in
    omega (arith, st.flags, st.count, one_more w i (omega (arith, st.flags)) e, at_most (set w i true), length-set w i true)

-- place i on top of the stack
abbrev onto : ℕ → Search → Search
onto i s = search_of s.unwritten (set s.waiting i true) (s.stack.items ++ i ∷ [])

-- as Stacked asks, where place i did not wait
module _ (n i : ℕ) (s : Search) (st : Stacked n s) (h : i < n * 2) (few : n ≤ 4096) (e : waits s i ≡ false) where
  fits : i < length s.waiting
  fits = omega (arith, st.flags)

  -- what the stack has at its new top, and below
  on_top : (j : ℕ) → j ≡ top s → stacked (onto i s) j ≡ i
  on_top j q = rw q (get_or-append_seam s.stack.items i [] 0)

  below : (j : ℕ) → j < top s → stacked (onto i s) j ≡ stacked s j
  below j l = get_or-append s.stack.items (i ∷ []) 0 j l

  taller : top (onto i s) ≡ top s + 1
  taller = length-append s.stack.items (i ∷ [])

  other : (j : ℕ) → j < top s → stacked s j ≡ i → ⊥
  other j l q = never_both (st.wait j l) (rw q e)

  onto_waits : (j : ℕ) → j < top (onto i s) → waits (onto i s) (stacked (onto i s) j) ≡ true
  onto_waits j l = cases (ℕ_discrete j (top s))
    where
      cases : Dec (j ≡ top s) → waits (onto i s) (stacked (onto i s) j) ≡ true
      cases (yes q) = rw (on_top j q) (get_or-set_same s.waiting i true false fits)
      cases (no q) =
          let low : j < top s = omega (arith, taller) in
          rw (below j low) (get_or-set_other s.waiting i (stacked s j) true false (other j low) ∙ st.wait j low)

  onto_once : (j k : ℕ) → j < k → k < top (onto i s) → stacked (onto i s) j ≡ stacked (onto i s) k → ⊥
  onto_once j k l m z = cases (ℕ_discrete k (top s))
    where
      cases : Dec (k ≡ top s) → ⊥
      cases (yes q) = let low : j < top s = omega arith in other j low (sym (below j low) ∙ z ∙ on_top k q)
      cases (no q) =
          let low : k < top s = omega (arith, taller) in
          st.once j k l low (sym (below j (omega arith)) ∙ z ∙ below k low)

  onto_inside : (j : ℕ) → j < top (onto i s) → stacked (onto i s) j < n * 2
  onto_inside j l = cases (ℕ_discrete j (top s))
    where
      cases : Dec (j ≡ top s) → stacked (onto i s) j < n * 2
      cases (yes q) = rw (on_top j q) h
      cases (no q) = let low : j < top s = omega (arith, taller) in rw (below j low) (st.inside j low)

  stacked_onto : Stacked n (onto i s)
  stacked_onto = record {
    words = st.words;
    flags = length-set s.waiting i true ∙ st.flags;
    count = omega (arith, one_more s.waiting i fits e, st.count, taller);
    wait = onto_waits;
    once = onto_once;
    inside = onto_inside;
    small = st.small;
  }

-- place i waits
stacked-pushed : (n i : ℕ) (s : Search) → Stacked n s → i < n * 2 → n ≤ 4096 → Stacked n (pushed i s)
unfolding pushed
stacked-pushed n i s st h few = cases (waits s i) refl
  where
    cases : (b : Bool) → waits s i ≡ b → Stacked n (cond b s (onto i s))
    cases true e = st
    cases false e = stacked_onto n i s st h few e

-- what that leaves, and how far the stack grows
pub pushed_words : (i : ℕ) (s : Search) → (pushed i s).unwritten ≡ s.unwritten
unfolding pushed
pushed_words i s = cases (waits s i)
  where
    cases : (b : Bool) → (cond b s (onto i s)).unwritten ≡ s.unwritten
    cases true = refl
    cases false = refl

pub pushed_top : (i : ℕ) (s : Search) → top (pushed i s) ≤ top s + 1
unfolding pushed
pushed_top i s = cases (waits s i)
  where
    cases : (b : Bool) → top (cond b s (onto i s)) ≤ top s + 1
    cases true = omega arith
    cases false = omega (arith, length-append s.stack.items (i ∷ []))

-- the word of place i gets the registers of b
abbrev pub joined : ℕ → ℕ → Search → Search
joined i b s = search_of (set s.unwritten i (bit_or (word_at s i) b)) s.waiting s.stack.items

pub stacked-joined : (n i b : ℕ) (s : Search) → Stacked n s → i < places → b < 2 ^ 24 → Stacked n (joined i b s)
stacked-joined n i b s st h k = record {
  words = length-set s.unwritten i (bit_or (word_at s i) b) ∙ st.words;
  flags = st.flags;
  count = st.count;
  wait = st.wait;
  once = st.once;
  inside = st.inside;
  small = λ j. cases j (ℕ_discrete j i);
}
  where
    cases : (j : ℕ) → Dec (j ≡ i) → word_at (joined i b s) j < 2 ^ 24
    cases j (yes q) =
        rw (q, get_or-set_same s.unwritten i (bit_or (word_at s i) b) 0 (omega (arith, st.words)))
        (or_lt 24 (word_at s i) b (st.small i) k)
    cases j (no q) = rw (get_or-set_other s.unwritten i j (bit_or (word_at s i) b) 0 q) (st.small j)

-- both steps of the search keep the stack as Stacked says
pub stacked-arrived : (n i b : ℕ) (s : Search) → Stacked n s → i < n * 2 → n ≤ 4096 → b < 2 ^ 24 → Stacked n (arrived i b s)
unfolding arrived
stacked-arrived n i b s st h few k = cases (eqb (bit_or (word_at s i) b) (word_at s i))
  where
    cases : (t : Bool) → Stacked n (cond t s (pushed i (joined i b s)))
    cases true = st
    cases false = stacked-pushed n i (joined i b s) (stacked-joined n i b s st (omega arith) k) h few

pub stacked-popped : (n : ℕ) (s : Search) → Stacked n s → 0 < top s → Stacked n (popped s)
stacked-popped n s st h =
    let last : top s - 1 < top s = omega arith in
    let p = stacked s (top s - 1) in
    let less : top (popped s) ≡ top s - 1 = length-take-le (top s - 1) s.stack.items (omega arith) in
    let same : (j : ℕ) → j < top (popped s) → stacked (popped s) j ≡ stacked s j = λ j l. get_or-take (top s - 1) s.stack.items j 0 (omega (arith, less)) in
    record {
      words = st.words;
      flags = length-set s.waiting p false ∙ st.flags;
      count = omega (arith, one_less s.waiting p (st.wait (top s - 1) last), st.count, less);
      wait = λ j l.
          rw (same j l) (get_or-set_other s.waiting p (stacked s j) false false (st.once j (top s - 1) (omega (arith, less)) last) ∙ st.wait j (omega (arith, less)));
      once = λ j k l m z. st.once j k l (omega (arith, less)) (sym (same j (omega arith)) ∙ z ∙ same k m);
      inside = λ j l. rw (same j l) (st.inside j (omega (arith, less)));
      small = st.small;
    }

-- what `pop` takes is the last place of the stack, where there is one
pub record Popped (s t : Search) (i : ℕ) : Type 0 where
  pub some : 0 < top s
  pub last : stacked s (top s - 1) ≡ i
  pub left : t ≡ popped s

-- place i no longer waits, and the stack is another
abbrev pub calmed : Search → ArrayVec ℕ → ℕ → Search
calmed s rest i = record { unwritten = s.unwritten; waiting = set s.waiting i false; stack = rest }

pub popped_last : (s : Search) (rest : ArrayVec ℕ) (r : Option ℕ) (i : ℕ)
    → rest.items ≡ take (top s - 1) s.stack.items → r ≡ slice_get s.stack.items (top s - 1) → r ≡ Some i
    → Popped s (calmed s rest i) i
popped_last s rest r i less value is =
    let found : slice_get s.stack.items (top s - 1) ≡ Some i = sym value ∙ is in
    let last : stacked s (top s - 1) ≡ i = get_or_from_slice_get s.stack.items (top s - 1) i 0 found in
    record {
      some = omega (arith, slice_get_within s.stack.items (top s - 1) i found);
      last = last;
      left = rw (last, ← less);
    }

pub popped_none : (s : Search) (r : Option ℕ) → r ≡ slice_get s.stack.items (top s - 1) → r ≡ None → top s ≡ 0
popped_none s r value is = cases (slice_get_cases s.stack.items (top s - 1)).1
  where
    some_none : {x : ℕ} → Some x ≡ None → ⊥
    some_none e = let z : ◌≡◌ {A = ℕ} 0 1 = cc in omega arith

    cases : ((x : ℕ) × (top s - 1 < top s) × (slice_get s.stack.items (top s - 1) ≡ Some x) × (get_or s.stack.items (top s - 1) x ≡ x)) ⊎ ((top s ≤ top s - 1) × (slice_get s.stack.items (top s - 1) ≡ None)) → top s ≡ 0
    cases (inl h) = absurd (some_none (sym h.2 ∙ sym value ∙ is))
    cases (inr h) = omega (arith, h.0)
