-- The list that a packed one stands for.
use Prim.Native.Nat.{ℕ, zero, suc, ◌/◌, ◌<◌}
use mathlib.Core.Path.{◌≡◌, refl, sym, ap, ◌∙◌}
use mathlib.Core.List.{List, [], ◌∷◌, ◌++◌}
use mathlib.Core.Bool.{Bool, true, false, cond, not}
use lib.Dec.{eqb, ltb}
use lib.ListN.{length, get_or, set, length-append, length-set, get_or-append}
use lib.Seq.{ext_get_or, get_or_at, get_or-set_same, get_or-set_other}
use native.Mathlib.Omega.{arith}
use borrow.Author.Tests.{eqb-true, eqb-false, eq-eqb, ltb-true, ltb-false, lt-ltb}
use Rattle.protection.specs.Form.{covers, holds, is_protected, with_mark}
use Rattle.protection.specs.Bits.{bit_form, bitwise}
use Rattle.protection.specs.Bytes.{bytewise, unpacked}
use Rattle.protection.specs.Theorems.{Alike}
use Rattle.protection.proofs.Marks.{marked_list}

-- the byte of an address
abbrev mark : List ℕ → ℕ → ℕ
mark p a = cond (is_protected (bitwise p) a) 1 0

module _ (p : List ℕ) where
  pub unpacked_length : (n : ℕ) → length (unpacked n p) ≡ n
  unfolding unpacked
  unpacked_length zero = refl
  unpacked_length (suc n) = length-append (unpacked n p) (mark p n ∷ []) ∙ omega (arith, unpacked_length n)

  byte : (n a : ℕ) → a < n → get_or (unpacked n p) a 0 ≡ mark p a
  unfolding unpacked
  byte zero a h = absurd (omega arith)
  byte (suc n) a h = cases (ltb a n) refl (byte n a)
    where
      cases : (t : Bool) → ltb a n ≡ t → (a < n → get_or (unpacked n p) a 0 ≡ mark p a) → get_or (unpacked n p ++ (mark p n ∷ [])) a 0 ≡ mark p a
      cases true t rest = get_or-append (unpacked n p) (mark p n ∷ []) 0 a (omega (arith, ltb-true a n t, unpacked_length n)) ∙ rest (ltb-true a n t)
      cases false t rest =
          let last : a ≡ n = omega (arith, ltb-false a n t) in
          rw last (get_or_at (unpacked n p) (mark p n) [] 0 n (unpacked_length n))

-- a byte is not 0 exactly if it was made for a protected halfword
not_zero : (t : Bool) → t ≡ not (eqb (cond t 1 0) 0)
not_zero true = refl
not_zero false = refl

pub stands_for : (n : ℕ) (p : List ℕ) → length p ≡ bit_form.cover_of n → Alike n (bitwise p) (bytewise (unpacked n p))
unfolding covers is_protected
stands_for n p h = record {
  length_alike = eq-eqb (length p) (bit_form.cover_of n) h ∙ sym (eq-eqb (length (unpacked n p)) n (unpacked_length p n));
  bits_alike = λ t a l. not_zero (is_protected (bitwise p) a) ∙ ap (λ (b : ℕ). not (eqb b 0)) (sym (byte p n a l));
}

-- 0 and 1 are their own marks
pub digit_mark : (v : ℕ) → v < 2 → cond (eqb v 1) 1 0 ≡ v
digit_mark v h = cases (eqb v 1) refl
  where
    cases : (t : Bool) → eqb v 1 ≡ t → cond t 1 0 ≡ v
    cases true t = omega (arith, eqb-true v 1 t)
    cases false t = let other = eqb-false v 1 t in omega (arith, other)

module _ (n : ℕ) (p : List ℕ) (a v : ℕ) (cover : length p ≡ bit_form.cover_of n) (inside : a < n) (digit : v < 2) where
  abbrev after : List ℕ
  after = (with_mark a v (bitwise p)).bytes

  held : holds (bitwise p) a ≡ true
  unfolding holds
  held = lt-ltb (a / 8) (length p) (omega (arith, cover))

  each : (i : ℕ) → i < n → get_or (unpacked n after) i 0 ≡ get_or (set (unpacked n p) a v) i 0
  unfolding with_mark
  each i l = byte after n i l ∙ cases (eqb i a) refl
    where
      cases : (t : Bool) → eqb i a ≡ t → mark after i ≡ get_or (set (unpacked n p) a v) i 0
      cases true t =
          let e = eqb-true i a t in
          rw e (ap (λ (b : Bool). cond b 1 0) ((marked_list p a v digit).here held) ∙ digit_mark v digit ∙ sym (get_or-set_same (unpacked n p) a v 0 (omega (arith, unpacked_length p n))))
      cases false t =
          let e = eqb-false i a t in
          ap (λ (b : Bool). cond b 1 0) ((marked_list p a v digit).others i e) ∙ sym (byte p n i l) ∙ sym (get_or-set_other (unpacked n p) a i v 0 e)

  pub mark_unpacked : bytewise (unpacked n (with_mark a v (bitwise p)).bytes) ≡ with_mark a v (bytewise (unpacked n p))
  unfolding with_mark
  mark_unpacked =
      ap bytewise
      (ext_get_or 0 (unpacked n after) (set (unpacked n p) a v) (unpacked_length after n ∙ sym (length-set (unpacked n p) a v ∙ unpacked_length p n)) (λ i l. each i (omega (arith, l, unpacked_length after n))))
