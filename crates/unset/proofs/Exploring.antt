-- The search keeps its invariant, and where nothing waits any more it has found what paths reach: no more by the paths that it followed, no less by
-- induction over any path.
use Prim.Native.Nat.{ℕ, zero, suc, ◌-◌, ◌*◌, ◌/◌, ◌%◌, ◌<◌, ◌≤◌}
use mathlib.Core.Path.{◌≡◌, refl, sym, ap, subst, ◌∙◌}
use mathlib.Core.List.{List, [], ◌∷◌, Memᴰ}
use mathlib.Core.Bool.{Bool, true, false, not, ◌&&◌}
use lib.Dec.{eqb}
use lib.ListN.{length, get_or, replicate, length-replicate}
use lib.Seq.{get_or-set_other}
use native.Mathlib.Omega.{arith}
use borrow.Author.Tests.{eqb-true, eqb-false, not-true}
use Rattle.hexfloat.proofs.Answers.{gives_inj, both}
use Rattle.orders.specs.declared.order.Operation.{Operation}
use Rattle.orders.specs.Order.{order_at}
use Rattle.machine.specs.Uses.{written_by}
use Rattle.unset.specs.declared.path.Point.{Point}
use Rattle.unset.specs.Bits.{register_of, in_word, bits_of, all, without}
use Rattle.unset.specs.Path.{start, nexts, OrderAt, Writes, Leads, Path, begins, goes, Along, ReachedUnwritten}
use Rattle.unset.specs.declared.search.Search.{Search}
use Rattle.unset.specs.Search.{unexplored, word_at, waits, stacked, reached, popped, index_of, point_at, places, trues, Stacked, TakenUp, Explored, top}
use Rattle.unset.proofs.Arrivals.{Reached, reached_one, reached-all}
use Rattle.unset.proofs.Points.{point_back, place_back, next_small, path_small}
use Rattle.unset.proofs.Registers.{numbered, proper_written}
use Rattle.unset.proofs.Gains.{left, left_calm, left_popped}
use Rattle.unset.proofs.Stack.{none_waits, stacked-popped, Popped}
use Rattle.unset.proofs.Words.{never_both, in_without, in_zero, in_all, bits_only, bits_every, bits_small, without_small}

abbrev orders : List ℕ → ℕ
orders d = length d / 4

-- some path reaches place j without having written register k
abbrev Reach : List ℕ → ℕ → ℕ → Type 0
Reach d j k = k < 24 → ReachedUnwritten d (register_of k) (point_at j)

-- what reaches place j and is not written there reaches every point after it
abbrev Closed : List ℕ → Search → ℕ → Type 0
Closed d s j =
    (y : Point) (k : ℕ) → k < 24 → Leads d (point_at j) y → y.order < orders d → (Writes d (point_at j) (register_of k) → ⊥) →
    in_word k (word_at s j) ≡ true → in_word k (word_at s (index_of y)) ≡ true

-- the invariant: what was found is so; all registers reach the start; a place that does not wait has handed on what it has
pub record Searching (d : List ℕ) (s : Search) : Type 0 where
  pub few : orders d ≤ 4096
  pub stack : Stacked (orders d) s
  pub sound : (j k : ℕ) → in_word k (word_at s j) ≡ true → Reach d j k
  pub started : 0 < orders d → (k : ℕ) → k < 24 → in_word k (word_at s 0) ≡ true
  pub closed : (j : ℕ) → waits s j ≡ false → Closed d s j

-- ---- place i is taken up, where all others that do not wait have handed on what they have
module _ (d : List ℕ) (few : orders d ≤ 4096) (i : ℕ) (inside : i < orders d * 2) (s t : Search) (up : TakenUp d i s t) (stack : Stacked (orders d) s) where
  abbrev written : ℕ
  written = bits_of (written_by up.operation (order_at d (i / 2)) (i % 2))

  abbrev bits : ℕ
  bits = without (word_at s i) written

  abbrev on : List Point
  on = nexts up.operation.verb (order_at d (i / 2)) (point_at i)

  abbrev here : OrderAt d (point_at i)
  here = record { operation = up.operation; inside = omega arith; legal = up.legal }

  after : Reached (orders d) on bits s t
  after =
      let n = numbered (order_at d (i / 2)) up.operation (i % 2) up.legal (omega arith) in
      let small = without_small (word_at s i) written (stack.small i) (bits_small _ (proper_written up.operation (order_at d (i / 2)) (i % 2) n)) in
      subst (Reached (orders d) on bits s) (sym up.after)
      (reached-all (orders d) bits few small on s (λ y m. next_small (order_at d (i / 2)) up.operation (point_at i) y up.legal (omega arith) m) stack)

  -- the same order, however it is found legal
  same : (o : OrderAt d (point_at i)) → o.operation ≡ up.operation
  same o = gives_inj (sym o.legal ∙ up.legal)

  -- what is written there, as bits
  writes_bit : (k : ℕ) → k < 24 → Writes d (point_at i) (register_of k) → in_word k written ≡ true
  writes_bit k l w =
      bits_every k (written_by up.operation (order_at d (i / 2)) (i % 2)) l
      (subst (λ (op : Operation). Memᴰ (register_of k) (written_by op (order_at d (i / 2)) (i % 2))) (same w.here) w.writes)

  bit_writes : (k : ℕ) → in_word k written ≡ true → Writes d (point_at i) (register_of k)
  bit_writes k h =
      let n = numbered (order_at d (i / 2)) up.operation (i % 2) up.legal (omega arith) in
      record { here = here; writes = bits_only k (written_by up.operation (order_at d (i / 2)) (i % 2)) (proper_written up.operation (order_at d (i / 2)) (i % 2) n) h }

  -- what is handed on reached place i and is not written there
  handed : (k : ℕ) → k < 24 → in_word k bits ≡ true → (in_word k (word_at s i) ≡ true) × (Writes d (point_at i) (register_of k) → ⊥)
  handed k l h =
      let q = both (in_word k (word_at s i)) (not (in_word k written)) (sym (in_without k (word_at s i) written) ∙ h) in
      (q.0, λ w. never_both (writes_bit k l w) (not-true (in_word k written) q.1))

  hands : (k : ℕ) → in_word k (word_at s i) ≡ true → (Writes d (point_at i) (register_of k) → ⊥) → in_word k bits ≡ true
  hands k h n = in_without k (word_at s i) written ∙ cases (in_word k written) refl
    where
      cases : (b : Bool) → in_word k written ≡ b → (in_word k (word_at s i) && not b) ≡ true
      cases true e = absurd (n (bit_writes k e))
      cases false e = rw h

  -- what was found is so
  taken_sound : ((j k : ℕ) → in_word k (word_at s j) ≡ true → Reach d j k) → (j k : ℕ) → in_word k (word_at t j) ≡ true → Reach d j k
  taken_sound before = after.all (Reach d) before new
    where
      new : (y : Point) → Memᴰ y on → y.order < orders d → (k : ℕ) → in_word k bits ≡ true → Reach d (index_of y) k
      new y m l k h few =
          let q = handed k few h in
          let r = before i k q.0 few in
          let small = next_small (order_at d (i / 2)) up.operation (point_at i) y up.legal (omega arith) m in
          subst (ReachedUnwritten d (register_of k)) (sym (point_back y small))
          (record { path = goes r.path (record { here = here; onward = m }); unwritten = (r.unwritten, q.1) })

  -- place i has handed on what it has
  taken_here : waits t i ≡ false → Closed d t i
  taken_here w y k l lead inside-y n h =
      let q = after.grown.quiet i w in
      let m : Memᴰ y on =
      subst (λ (op : Operation). Memᴰ y (nexts op.verb (order_at d (i / 2)) (point_at i))) (same lead.here) lead.onward in
      after.gains y m inside-y k (hands k (ap (in_word k) (sym q.0) ∙ h) n)

  -- and so have those that had
  taken_other : (j : ℕ) → Closed d s j → waits t j ≡ false → Closed d t j
  taken_other j before w y k l lead inside-y n h =
      let q = after.grown.quiet j w in
      after.grown.keeps (index_of y) k (before y k l lead inside-y n (ap (in_word k) (sym q.0) ∙ h))

  taken_closed : ((j : ℕ) → (j ≡ i → ⊥) → waits s j ≡ false → Closed d s j) → (j : ℕ) → waits t j ≡ false → Closed d t j
  taken_closed before j w = cases (eqb j i) refl
    where
      cases : (x : Bool) → eqb j i ≡ x → Closed d t j
      cases true e = subst (λ (n : ℕ). waits t n ≡ false → Closed d t n) (sym (eqb-true j i e)) taken_here w
      cases false e = taken_other j (before j (eqb-false j i e) (after.grown.quiet j w).1) w

-- ---- the steps of the search

-- the last place that waits is taken up: the invariant stays, and less is left to do
pub record Onward (d : List ℕ) (s t : Search) : Type 0 where
  pub inv : Searching d t
  pub less : left t < left s

searching_on :
    (d : List ℕ) (s t : Search) → Searching d s → 0 < top s → TakenUp d (stacked s (top s - 1)) (popped s) t → Onward d s t
searching_on d s t inv some up =
    let i = stacked s (top s - 1) in
    let stack = stacked-popped (orders d) s inv.stack some in
    let inside = inv.stack.inside (top s - 1) (omega arith) in
    let got = after d inv.few i inside (popped s) t up stack in
    record {
      inv = record {
        few = inv.few;
        stack = got.stacked;
        sound = taken_sound d inv.few i inside (popped s) t up stack inv.sound;
        started = λ h k l. got.grown.keeps 0 k (inv.started h k l);
        closed = taken_closed d inv.few i inside (popped s) t up stack
            (λ j n w. inv.closed j (sym (get_or-set_other s.waiting i j false false n) ∙ w));
      };
      less = omega (arith, got.less, left_popped s some);
    }

-- as the code takes it from the stack
pub searching_popped : (d : List ℕ) (s u t : Search) (i : ℕ) → Searching d s → Popped s u i → TakenUp d i u t → Onward d s t
searching_popped d s u t i inv p up =
    searching_on d s t inv p.some (subst (λ (k : ℕ). TakenUp d k (popped s) t) (sym p.last) (subst (λ (v : Search). TakenUp d i v t) p.left up))

-- nothing is found yet, and nothing waits
pub record Blank (s : Search) : Type 0 where
  pub words : length s.unwritten ≡ places
  pub flags : length s.waiting ≡ places
  pub zeros : (i : ℕ) → word_at s i ≡ 0
  pub calm : trues s.waiting ≡ 0
  pub empty : top s ≡ 0

pub blank-stacked : (n : ℕ) (s : Search) → Blank s → Stacked n s
blank-stacked n s o = record {
  words = o.words;
  flags = o.flags;
  count = o.calm ∙ sym o.empty;
  wait = λ j h. absurd (omega (arith, o.empty));
  once = λ j k h l. absurd (omega (arith, o.empty));
  inside = λ j h. absurd (omega (arith, o.empty));
  small = λ i. rw (o.zeros i) (omega arith);
}

-- a list of one value
filled_at : {A : Type 0} (m i : ℕ) (a : A) → get_or (replicate m a) i a ≡ a
filled_at zero i a = refl
filled_at (suc m) zero a = refl
filled_at (suc m) (suc i) a = filled_at m i a

filled_calm : (m : ℕ) → trues (replicate m false) ≡ 0
unfolding trues
filled_calm zero = refl
filled_calm (suc m) = filled_calm m

pub blank : Blank unexplored
blank = record {
  words = length-replicate {A = ℕ} places 0;
  flags = length-replicate places false;
  zeros = λ i. filled_at places i 0;
  calm = filled_calm places;
  empty = refl;
}

-- all registers arrive at the start
pub searching_starts : (d : List ℕ) (s : Search) → orders d ≤ 4096 → Blank s → Searching d (reached (orders d) start all s)
searching_starts d s few o =
    let got : Reached (orders d) (start ∷ []) all s (reached (orders d) start all s) =
    reached_one (orders d) all few (omega arith) start s (omega arith) (blank-stacked (orders d) s o) in
    record {
      few = few;
      stack = got.stacked;
      sound = got.all (Reach d) (λ j k h. absurd (nothing j k h)) (λ x m h k g l. first x (mathlib.Core.List.Memᴰ.eq_of_singleton m) k);
      started = λ h k l. got.gains start (mathlib.Core.List.Memᴰ.head refl) h k (in_all k l);
      closed = λ j w y k l lead inside n h. absurd (nothing j k (ap (in_word k) (sym (got.grown.quiet j w).0) ∙ h));
    }
  where
    nothing : (j k : ℕ) → in_word k (word_at s j) ≡ true → ⊥
    nothing j k h = never_both h (ap (in_word k) (o.zeros j) ∙ in_zero k)

    first : (x : Point) → x ≡ start → (k : ℕ) → ReachedUnwritten d (register_of k) (point_at (index_of x))
    first x e k = subst (λ (z : Point). ReachedUnwritten d (register_of k) (point_at (index_of z))) (sym e) (record { path = begins; unwritten = tt })

-- no more places will be taken up than places times registers
pub few_turns : (d : List ℕ) (s : Search) → orders d ≤ 4096 → Blank s → left (reached (orders d) start all s) ≤ places * 24
few_turns d s few o =
    omega (arith, (reached_one (orders d) all few (omega arith) start s (omega arith) (blank-stacked (orders d) s o)).less, left_calm s o.empty)

-- ---- nothing waits any more

-- what a path reaches unwritten was found
complete :
    (d : List ℕ) (s : Search) → Searching d s → top s ≡ 0 → (k : ℕ) → k < 24 → {x : Point} (p : Path d x) → Along d (register_of k) p → x.order < orders d →
    in_word k (word_at s (index_of x)) ≡ true
complete d s inv end k l begins a h = inv.started (omega arith) k l
complete d s inv end k l (goes {x} {y} p lead) a h =
    let x-back = point_back x (path_small d p) in
    let before = complete d s inv end k l p a.0 lead.here.inside in
    inv.closed (index_of x) (none_waits (orders d) s inv.stack end (index_of x)) y k l
    (subst (λ (z : Point). Leads d z y) (sym x-back) lead) h (λ w. a.1 (subst (λ (z : Point). Writes d z (register_of k)) x-back w)) before

pub searching_ends : (d : List ℕ) (s : Search) → Searching d s → top s ≡ 0 → Explored d s.unwritten
searching_ends d s inv end = record {
  only = λ i k l h. inv.sound i k h l;
  every = λ i k h l r.
      subst (λ (j : ℕ). in_word k (word_at s j) ≡ true) (place_back i) (complete d s inv end k l r.path r.unwritten (omega arith));
}
