-- What arrives at a place: its word, and the words of all others.
use Prim.Native.Nat.{ℕ, ◌*◌, ◌^◌, ◌<◌, ◌≤◌}
use mathlib.Core.Path.{◌≡◌, refl, sym, ap, subst, ◌∙◌}
use mathlib.Core.List.Memᴰ
use mathlib.Core.List.{List, [], ◌∷◌, ◌++◌, Memᴰ}
use mathlib.Core.Logic.{⊎_elim}
use mathlib.Core.Bool.{Bool, true, false, cond, ◌||◌, or-true}
use lib.Bits.{bit_or}
use lib.Dec.{eqb, ltb}
use lib.ListN.{length, get_or, set}
use lib.Seq.{get_or-set_same, get_or-set_other}
use native.Mathlib.Omega.{arith}
use borrow.Author.Tests.{eqb-true, eqb-false, ltb-true, ltb-false}
use Rattle.unset.specs.declared.path.Point.{Point}
use Rattle.unset.specs.Bits.{in_word}
use Rattle.unset.specs.declared.search.Search.{Search}
use Rattle.unset.specs.Search.{search_of, word_at, waits, pushed, arrived, reached, reached_all, index_of, Stacked}
use Rattle.unset.proofs.Gains.{left, left_arrived}
use Rattle.unset.proofs.Stack.{stacked-arrived}
use Rattle.unset.proofs.Words.{never_both, in_or}

-- no bit is lost, and a place that does not wait afterwards did not wait before and has what it had
pub record Grown (s t : Search) : Type 0 where
  pub keeps : (j k : ℕ) → in_word k (word_at s j) ≡ true → in_word k (word_at t j) ≡ true
  pub quiet : (j : ℕ) → waits t j ≡ false → (word_at t j ≡ word_at s j) × (waits s j ≡ false)

grown_none : (s : Search) → Grown s s
grown_none s = record { keeps = λ j k h. h; quiet = λ j h. (refl, h) }

grown_more : (s t u : Search) → Grown s t → Grown t u → Grown s u
grown_more s t u a b = record {
  keeps = λ j k h. b.keeps j k (a.keeps j k h);
  quiet = λ j h. let q = b.quiet j h in let r = a.quiet j q.1 in (q.0 ∙ r.0, r.1);
}

-- ---- at one place: its word gains what arrives, the others stay
pub record Came (i b : ℕ) (s t : Search) : Type 0 where
  pub here : word_at t i ≡ bit_or (word_at s i) b
  pub other : (j : ℕ) → (j ≡ i → ⊥) → word_at t j ≡ word_at s j
  pub quiet : (j : ℕ) → waits t j ≡ false → (word_at t j ≡ word_at s j) × (waits s j ≡ false)

pub came : (i b : ℕ) (s : Search) → i < length s.unwritten → i < length s.waiting → Came i b s (arrived i b s)
unfolding arrived pushed
came i b s there flag = cases (eqb union old) (waits s i) refl refl
  where
    old : ℕ
    old = word_at s i

    union : ℕ
    union = bit_or old b

    after : Bool → Bool → Search
    after same waiting =
        cond same s
        (cond waiting (search_of (set s.unwritten i union) s.waiting s.stack.items)
        (search_of (set s.unwritten i union) (set s.waiting i true) (s.stack.items ++ i ∷ [])))

    -- another place, where the flags of place i say that it waits
    elsewhere : (flags : List Bool) (j : ℕ) → get_or flags i false ≡ true → get_or flags j false ≡ false → j ≡ i → ⊥
    elsewhere flags j t f e = never_both t (ap (λ (n : ℕ). get_or flags n false) (sym e) ∙ f)

    apart : (j : ℕ) → (j ≡ i → ⊥) → get_or (set s.unwritten i union) j 0 ≡ word_at s j
    apart j n = get_or-set_other s.unwritten i j union 0 n

    cases : (x y : Bool) → eqb union old ≡ x → waits s i ≡ y → Came i b s (after x y)
    cases true y e w = record { here = sym (eqb-true union old e); other = λ j n. refl; quiet = λ j h. (refl, h) }
    cases false true e w = record {
      here = get_or-set_same s.unwritten i union 0 there;
      other = apart;
      quiet = λ j h. (apart j (elsewhere s.waiting j w h), h);
    }
    cases false false e w = record {
      here = get_or-set_same s.unwritten i union 0 there;
      other = apart;
      quiet = λ j h.
          let n = elsewhere (set s.waiting i true) j (get_or-set_same s.waiting i true false flag) h in
          (apart j n, sym (get_or-set_other s.waiting i j true false n) ∙ h);
    }

-- what place j has afterwards: what it had, or what arrived
came_grown : (i b : ℕ) (s t : Search) → Came i b s t → Grown s t
came_grown i b s t c = record { keeps = λ j k h. cases j k (eqb j i) refl h; quiet = c.quiet }
  where
    cases : (j k : ℕ) (x : Bool) → eqb j i ≡ x → in_word k (word_at s j) ≡ true → in_word k (word_at t j) ≡ true
    cases j k true e h =
        let same = eqb-true j i e in
        let old : in_word k (word_at s i) ≡ true = subst (λ (n : ℕ). in_word k (word_at s n) ≡ true) same h in
        subst (λ (n : ℕ). in_word k (word_at t n) ≡ true) (sym same) (ap (in_word k) c.here ∙ in_or k (word_at s i) b ∙ rw old)
    cases j k false e h = ap (in_word k) (c.other j (eqb-false j i e)) ∙ h

came_gains : (i b : ℕ) (s t : Search) → Came i b s t → (k : ℕ) → in_word k b ≡ true → in_word k (word_at t i) ≡ true
came_gains i b s t c k h = ap (in_word k) c.here ∙ in_or k (word_at s i) b ∙ rw h (or-true (in_word k (word_at s i)))

-- a statement about every bit of every place, where it holds of what arrives
came_all :
    (P : ℕ → ℕ → Type 0) (i b : ℕ) (s t : Search) → Came i b s t → ((j k : ℕ) → in_word k (word_at s j) ≡ true → P j k) →
    ((k : ℕ) → in_word k b ≡ true → P i k) → (j k : ℕ) → in_word k (word_at t j) ≡ true → P j k
came_all P i b s t c before new j k h = cases (eqb j i) refl
  where
    either : (x y : Bool) → (x || y) ≡ true → in_word k (word_at s i) ≡ x → in_word k b ≡ y → P i k
    either true y e f g = before i k f
    either false true e f g = new k g
    either false false e f g = absurd (never_both e refl)

    cases : (x : Bool) → eqb j i ≡ x → P j k
    cases true e =
        let same = eqb-true j i e in
        let has : in_word k (word_at t i) ≡ true = subst (λ (n : ℕ). in_word k (word_at t n) ≡ true) same h in
        subst (λ (n : ℕ). P n k) (sym same)
        (either (in_word k (word_at s i)) (in_word k b) (sym (in_or k (word_at s i) b) ∙ sym (ap (in_word k) c.here) ∙ has) refl refl)
    cases false e = before j k (sym (ap (in_word k) (c.other j (eqb-false j i e))) ∙ h)

-- ---- at some points, in a deck of n orders
pub record Reached (n : ℕ) (xs : List Point) (b : ℕ) (s t : Search) : Type 1 where
  pub stacked : Stacked n t
  pub less : left t ≤ left s
  pub grown : Grown s t
  -- each of them in the deck gains what arrives
  pub gains : (x : Point) → Memᴰ x xs → x.order < n → (k : ℕ) → in_word k b ≡ true → in_word k (word_at t (index_of x)) ≡ true
  -- and nothing else is gained
  pub all :
      (P : ℕ → ℕ → Type 0) → ((j k : ℕ) → in_word k (word_at s j) ≡ true → P j k) →
      ((x : Point) → Memᴰ x xs → x.order < n → (k : ℕ) → in_word k b ≡ true → P (index_of x) k) → (j k : ℕ) → in_word k (word_at t j) ≡ true → P j k

module _ (n b : ℕ) (few : n ≤ 4096) (small : b < 2 ^ 24) where
  reached_none : (s : Search) → Stacked n s → Reached n [] b s s
  reached_none s st = record {
    stacked = st;
    less = omega arith;
    grown = grown_none s;
    gains = λ x m. absurd (Memᴰ.not-nil m);
    all = λ P before new. before;
  }

  -- at a point of the deck
  reached_inside : (x : Point) (s : Search) → x.selector ≤ 1 → Stacked n s → x.order < n → Reached n (x ∷ []) b s (arrived (index_of x) b s)
  reached_inside x s sel st h =
      let i = index_of x in
      let inside : i < n * 2 = omega arith in
      let c = came i b s (omega (arith, st.words)) (omega (arith, st.flags)) in
      record {
        stacked = stacked-arrived n i b s st inside few small;
        less = left_arrived n i b s st inside few small;
        grown = came_grown i b s (arrived i b s) c;
        gains = λ y m l k g.
            subst (λ (z : Point). in_word k (word_at (arrived i b s) (index_of z)) ≡ true) (sym (Memᴰ.eq_of_singleton m)) (came_gains i b s (arrived i b s) c k g);
        all = λ P before new. came_all P i b s (arrived i b s) c before (new x (Memᴰ.head refl) h);
      }

  -- past its end nothing arrives
  reached_outside : (x : Point) (s : Search) → Stacked n s → (x.order < n → ⊥) → Reached n (x ∷ []) b s s
  reached_outside x s st h = record {
    stacked = st;
    less = omega arith;
    grown = grown_none s;
    gains = λ y m l. absurd (h (subst (λ (z : Point). z.order < n) (Memᴰ.eq_of_singleton m) l));
    all = λ P before new. before;
  }

  pub reached_one : (x : Point) (s : Search) → x.selector ≤ 1 → Stacked n s → Reached n (x ∷ []) b s (reached n x b s)
  unfolding reached
  reached_one x s sel st = cases (ltb x.order n) refl
    where
      cases : (c : Bool) → ltb x.order n ≡ c → Reached n (x ∷ []) b s (cond c (arrived (index_of x) b s) s)
      cases true e = reached_inside x s sel st (ltb-true x.order n e)
      cases false e = reached_outside x s st (λ l. omega (arith, ltb-false x.order n e))

  -- one point, then the others
  reached_more : (x : Point) (xs : List Point) (s u t : Search) → Reached n (x ∷ []) b s u → Reached n xs b u t → Reached n (x ∷ xs) b s t
  reached_more x xs s u t first rest = record {
    stacked = rest.stacked;
    less = omega (arith, first.less, rest.less);
    grown = grown_more s u t first.grown rest.grown;
    gains = λ y m l k g. ⊎_elim
        (λ (e : y ≡ x). rest.grown.keeps (index_of y) k (first.gains y (Memᴰ.head e) l k g))
        (λ (w : Memᴰ y xs). rest.gains y w l k g)
        (Memᴰ.cases_cons m);
    all = λ P before new.
        rest.all P (first.all P before (λ y m. new y (Memᴰ.head (Memᴰ.eq_of_singleton m)))) (λ y m. new y (Memᴰ.tail m));
  }

  pub reached-all :
      (xs : List Point) (s : Search) → ((x : Point) → Memᴰ x xs → x.selector ≤ 1) → Stacked n s → Reached n xs b s (reached_all n xs b s)
  unfolding reached_all
  reached-all [] s sel st = reached_none s st
  reached-all (x ∷ xs) s sel st =
      let first = reached_one x s (sel x (Memᴰ.head refl)) st in
      reached_more x xs s (reached n x b s) (reached_all n xs b (reached n x b s)) first
      (reached-all xs (reached n x b s) (λ y m. sel y (Memᴰ.tail m)) first.stacked)
