-- A list with a mark: the address that it names, and the others.
use Prim.Native.Nat.{ℕ, ◌/◌, ◌%◌, ◌<◌}
use mathlib.Core.Path.{◌≡◌, refl, ap, ◌∙◌}
use mathlib.Core.List.{List}
use mathlib.Core.Bool.{Bool, true, false}
use lib.Dec.{eqb, ltb}
use lib.ListN.{length, get_or, set, length-set}
use lib.Seq.{get_or-set_same, get_or-set_other, set_out}
use native.Mathlib.Omega.{arith}
use borrow.Author.Tests.{eqb-true, eqb-false, ltb-true, ltb-false}
use Rattle.protection.specs.Form.{holds, is_protected, with_mark}
use Rattle.protection.specs.Bits.{bit_of, with_bit, bitwise}
use Rattle.protection.specs.Theorems.{Marked}
use Rattle.protection.proofs.Bits.{bit_here, bit_other}

module _ (p : List ℕ) (a v : ℕ) (digit : v < 2) where
  -- the byte of the address, and the list with it
  abbrev old : ℕ
  old = get_or p (a / 8) 0

  abbrev marked : List ℕ
  marked = set p (a / 8) (with_bit (a % 8) v old)

  here : holds (bitwise p) a ≡ true → is_protected (with_mark a v (bitwise p)) a ≡ eqb v 1
  unfolding holds is_protected with_mark
  here h =
      ap (λ (b : ℕ). eqb (bit_of (a % 8) b) 1) (get_or-set_same p (a / 8) (with_bit (a % 8) v old) 0 (ltb-true (a / 8) (length p) h))
      ∙ ap (λ (d : ℕ). eqb d 1) (bit_here (a % 8) v old digit)

  -- another bit of that byte
  beside : (b : ℕ) → b / 8 ≡ a / 8 → (b % 8 ≡ a % 8 → ⊥) → bit_of (b % 8) (get_or marked (a / 8) 0) ≡ bit_of (b % 8) old
  beside b e differs = cases (ltb (a / 8) (length p)) refl
    where
      cases : (t : Bool) → ltb (a / 8) (length p) ≡ t → bit_of (b % 8) (get_or marked (a / 8) 0) ≡ bit_of (b % 8) old
      cases true t =
          ap (bit_of (b % 8)) (get_or-set_same p (a / 8) (with_bit (a % 8) v old) 0 (ltb-true (a / 8) (length p) t))
          ∙ bit_other (b % 8) (a % 8) v old digit differs
      cases false t = ap (λ (l : List ℕ). bit_of (b % 8) (get_or l (a / 8) 0)) (set_out p (a / 8) (with_bit (a % 8) v old) (ltb-false (a / 8) (length p) t))

  others : (b : ℕ) → (b ≡ a → ⊥) → is_protected (with_mark a v (bitwise p)) b ≡ is_protected (bitwise p) b
  unfolding is_protected with_mark
  others b differs = cases (eqb (b / 8) (a / 8)) refl
    where
      cases : (t : Bool) → eqb (b / 8) (a / 8) ≡ t → eqb (bit_of (b % 8) (get_or marked (b / 8) 0)) 1 ≡ eqb (bit_of (b % 8) (get_or p (b / 8) 0)) 1
      cases true t =
          let e = eqb-true (b / 8) (a / 8) t in
          let apart : b % 8 ≡ a % 8 → ⊥ = λ z. differs (omega (arith, e, z)) in
          rw e (ap (λ (d : ℕ). eqb d 1) (beside b e apart))
      cases false t = ap (λ (d : ℕ). eqb (bit_of (b % 8) d) 1) (get_or-set_other p (a / 8) (b / 8) (with_bit (a % 8) v old) 0 (eqb-false (b / 8) (a / 8) t))

  pub marked_list : Marked p a v
  unfolding with_mark
  marked_list = record { here = here; others = others; size = length-set p (a / 8) (with_bit (a % 8) v old) }
