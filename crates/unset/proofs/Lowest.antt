-- The word of what an order reads and of what reaches it unwritten has a bit for each register that the order reads unset, and no other bit.
-- So its lowest bit is the lowest of them, and where the word is 0 there is none.
use Prim.Native.Nat.{ℕ, zero, suc, ◌+◌, ◌*◌, ◌/◌, ◌^◌, ◌<◌, ◌≤◌}
use mathlib.Core.Path.{◌≡◌, refl, sym, ap, subst, ◌∙◌}
use mathlib.Core.List.{
  List,
  [],
  ◌∷◌,
  Memᴰ,
}
use mathlib.Core.Logic.{◌⊎◌, inl, inr, ⊎_elim}
use mathlib.Core.Bool.{Bool, true, false, ◌||◌, or-true}
use lib.Bits.{bit_and, and_le_l, or_lt}
use lib.Count.{count_trailing_zeros}
use lib.Dec.{ltb}
use lib.ListN.{length, get_or}
use native.Mathlib.Omega.{arith}
use borrow.Author.Tests.{ltb-true, ltb-false}
use Rattle.hexfloat.specs.Answer.{gives}
use Rattle.orders.specs.declared.order.Operation.{Operation}
use Rattle.orders.specs.declared.order.Order.{Order}
use Rattle.orders.specs.Order.{order_at, legal_of}
use Rattle.machine.specs.Uses.{Register, first_read, second_read, read_by}
use Rattle.hexfloat.proofs.Answers.{gives_inj, both}
use Rattle.unset.specs.Path.{point, ReachedUnwritten}
use Rattle.unset.specs.Answer.{rank, ReadUnset, LowestUnset}
use Rattle.unset.specs.Bits.{register_of, in_word, bits_of, read_bits}
use Rattle.unset.specs.Search.{point_at}
use Rattle.unset.specs.Finding.{LowestBit, UnsetBits, Searched}
use Rattle.unset.proofs.Words.{
  never_both,
  either,
  in_or,
  in_and,
  in_zero,
  no_bits,
  zeros_below,
  zeros_end,
  Proper,
  AllProper,
  rank_small,
  of_rank,
  ranked,
  bits_small,
  bits_only,
  bits_every,
}
use Rattle.unset.proofs.Points.{point_back, path_small}
use Rattle.unset.proofs.Registers.{numbered, proper_read}

-- ---- the lowest bit of a word

-- a word of 24 bits with one set has fewer than 24 zeros at its end
few_zeros : (w : ℕ) → 0 < w → w < 2 ^ 24 → count_trailing_zeros 32 w < 24
few_zeros w p l = cases (ltb (count_trailing_zeros 32 w) 24) refl
  where
    cases : (b : Bool) → ltb (count_trailing_zeros 32 w) 24 ≡ b → count_trailing_zeros 32 w < 24
    cases true e = ltb-true (count_trailing_zeros 32 w) 24 e
    cases false e =
        let many = ltb-false (count_trailing_zeros 32 w) 24 e in
        let none = no_bits 24 w l (λ k h. zeros_below 32 w k (omega arith)) in
        absurd (omega arith)

pub lowest_bit : (w : ℕ) → 0 < w → w < 2 ^ 24 → LowestBit w (count_trailing_zeros 32 w)
lowest_bit w p l = record { small = few_zeros w p l; here = zeros_end 32 w p (omega arith); below = zeros_below 32 w }

-- ---- what is read unset is a register that there is

-- one of such registers
proper_in : (rs : List Register) (t : Register) → AllProper rs → Memᴰ t rs → Proper t
proper_in [] t h m = absurd (mathlib.Core.List.Memᴰ.not-nil m)
proper_in (r ∷ rs) t h m = cases (mathlib.Core.List.Memᴰ.cases_cons m) (proper_in rs t h.1)
  where
    cases : (t ≡ r) ⊎ Memᴰ t rs → (Memᴰ t rs → Proper t) → Proper t
    cases (inl e) rest = subst Proper (sym e) h.0
    cases (inr n) rest = rest n

-- one that some order reads
pub proper_unset : (d : List ℕ) (p : ℕ) (t : Register) → ReadUnset d p t → Proper t
proper_unset d p t r =
    let op = r.reads.here.operation in
    let o = order_at d p in
    let s = r.selector in
    let ok = proper_read op o s (numbered o op s r.reads.here.legal (path_small d r.reached.path)) in
    ⊎_elim (proper_in _ t ok.0) (proper_in _ t ok.1) (mathlib.Core.List.Memᴰ.append_cases (first_read op o s) r.reads.reads)

-- ---- the bits of the word

-- the bits of what an order reads are those registers, and no others
read_only :
    (op : Operation) (o : Order) (s k : ℕ) → legal_of o ≡ gives op → s ≤ 1 → in_word k (read_bits op o s) ≡ true →
    Memᴰ (register_of k) (read_by op o s)
read_only op o s k h l e =
    let ok = proper_read op o s (numbered o op s h l) in
    let first = first_read op o s in
    let second = second_read op.place op.width o s in
    ⊎_elim (λ (f : in_word k (bits_of first) ≡ true). mathlib.Core.List.Memᴰ.append_left second (bits_only k first ok.0 f))
    (λ (f : in_word k (bits_of second) ≡ true). mathlib.Core.List.Memᴰ.append_right first (bits_only k second ok.1 f))
    (either (in_word k (bits_of first)) (in_word k (bits_of second)) (sym (in_or k (bits_of first) (bits_of second)) ∙ e))

read_every :
    (op : Operation) (o : Order) (s k : ℕ) → k < 24 → Memᴰ (register_of k) (read_by op o s) → in_word k (read_bits op o s) ≡ true
read_every op o s k l m =
    let first = first_read op o s in
    let second = second_read op.place op.width o s in
    in_or k (bits_of first) (bits_of second)
    ∙ ⊎_elim (λ (n : Memᴰ (register_of k) first). rw (bits_every k first l n))
    (λ (n : Memᴰ (register_of k) second). rw (bits_every k second l n) (or-true (in_word k (bits_of first))))
    (mathlib.Core.List.Memᴰ.append_cases first m)

-- the place of an order and a selector
at_point : (p s i : ℕ) → i ≡ p * 2 + s → s ≤ 1 → point_at i ≡ point p s
at_point p s i e l = ap point_at e ∙ point_back (point p s) l

-- what the order reads with selector s and what reaches place i unwritten
abbrev common : {d u : List ℕ} {p w : ℕ} → UnsetBits d u p w → ℕ → ℕ → ℕ
common {d} {u} {p} x s i = bit_and (read_bits x.operation (order_at d p) s) (get_or u i 0)

module _ (d u : List ℕ) (p w : ℕ) (found : Searched d u) (inside : p < length d / 4) (unset : UnsetBits d u p w) where
  -- its bits, by selector
  word_bits : (k : ℕ) → in_word k w ≡ (in_word k (common unset 0 (p * 2)) || in_word k (common unset 1 (p * 2 + 1)))
  word_bits k = ap (in_word k) unset.bits ∙ in_or k _ _

  -- a bit that is set with one selector is a register that the order reads unset
  only_with :
      (s i k : ℕ) → i ≡ p * 2 + s → s ≤ 1 → k < 24 → in_word k (common unset s i) ≡ true → ReadUnset d p (register_of k)
  only_with s i k e l b h =
      let op = unset.operation in
      let o = order_at d p in
      let q = both (in_word k (read_bits op o s)) (in_word k (get_or u i 0)) (sym (in_and k (read_bits op o s) (get_or u i 0)) ∙ h) in
      record {
        selector = s;
        reads = record {
          here = record { operation = op; inside = inside; legal = unset.legal };
          reads = read_only op o s k unset.legal l q.0;
        };
        reached = subst (ReachedUnwritten d (register_of k)) (at_point p s i e l) (found.explored.only i k b q.1);
      }

  -- and so with either
  pub unset_only : (k : ℕ) → k < 24 → in_word k w ≡ true → ReadUnset d p (register_of k)
  unset_only k l h =
      ⊎_elim (only_with 0 (p * 2) k (omega arith) (omega arith) l) (only_with 1 (p * 2 + 1) k refl (omega arith) l)
      (either _ _ (sym (word_bits k) ∙ h))

  -- a register that it reads unset is a bit that is set, by the selector with which it does
  every_with :
      (t : Register) (r : ReadUnset d p t) (s i : ℕ) → r.selector ≡ s → i ≡ p * 2 + s → in_word (rank t) (common unset s i) ≡ true
  every_with t r s i same e =
      let op = unset.operation in
      let o = order_at d p in
      let proper = proper_unset d p t r in
      let small = rank_small t proper in
      let l : s ≤ 1 = rw same at (path_small d r.reached.path) in
      let alike : r.reads.here.operation ≡ op = gives_inj (sym r.reads.here.legal ∙ unset.legal) in
      let member : Memᴰ t (read_by op o s) = rw (alike, same) at r.reads.reads in
      let reached : ReachedUnwritten d (register_of (rank t)) (point_at i) = rw (of_rank t proper, at_point p s i e l, ← same) r.reached in
      let in_place : i < length d / 4 * 2 = omega arith in
      in_and (rank t) (read_bits op o s) (get_or u i 0)
      ∙ rw (
        read_every op o s (rank t) small (mathlib.Core.List.Memᴰ.cast (of_rank t proper) member),
        found.explored.every i (rank t) in_place small reached,
      )

  pub unset_every : (t : Register) → ReadUnset d p t → in_word (rank t) w ≡ true
  unset_every t r = word_bits (rank t) ∙ cases r.selector refl (path_small d r.reached.path)
    where
      cases :
          (s : ℕ) → r.selector ≡ s → s ≤ 1 → (in_word (rank t) (common unset 0 (p * 2)) || in_word (rank t) (common unset 1 (p * 2 + 1))) ≡ true
      cases zero e l = rw (every_with t r 0 (p * 2) e (omega arith))
      cases (suc zero) e l = rw (every_with t r 1 (p * 2 + 1) e refl) (or-true (in_word (rank t) (common unset 0 (p * 2))))
      cases (suc (suc s)) e l = absurd (omega arith)

  -- where there is none the order reads nothing unset
  pub unset_none : w ≡ 0 → (t : Register) → ReadUnset d p t → ⊥
  unset_none e t r = never_both (unset_every t r) (ap (in_word (rank t)) e ∙ in_zero (rank t))

  -- and the word has 24 bits, as the registers are
  common_small : (s i : ℕ) → s ≤ 1 → common unset s i < 2 ^ 24
  common_small s i l =
      let op = unset.operation in
      let o = order_at d p in
      let ok = proper_read op o s (numbered o op s unset.legal l) in
      let few : read_bits op o s < 2 ^ 24 = or_lt 24 _ _ (bits_small _ ok.0) (bits_small _ ok.1) in
      omega (arith, and_le_l (read_bits op o s) (get_or u i 0))

  pub unset_small : w < 2 ^ 24
  unset_small = rw unset.bits (or_lt 24 _ _ (common_small 0 (p * 2) (omega arith)) (common_small 1 (p * 2 + 1) (omega arith)))

  -- the lowest bit is the lowest register of the order
  pub unset_lowest : (k : ℕ) → LowestBit w k → ((q : ℕ) → q < p → (t : Register) → ReadUnset d q t → ⊥) → LowestUnset d p (register_of k)
  unset_lowest k low earlier =
      record {
        unset = unset_only k low.small low.here;
        lowest_order = λ q t h. earlier q h t;
        lowest_register = λ t h r. never_both (unset_every t r) (low.below (rank t) (rw (ranked k low.small).place at h));
      }
