-- Marks in a protect list whose form is the packed one.
use Prim.Native.Nat.{ℕ, ◌<◌}
use mathlib.Core.Path.{◌≡◌, sym, ap, subst}
use mathlib.Core.Bool.{true}
use lib.Dec.{eqb}
use lib.ListN.{length}
use Rattle.protection.specs.Form.{Form, ProtectList, holds, is_protected, with_mark}
use Rattle.protection.specs.Bits.{bit_form, bitwise}
use Rattle.protection.specs.Bytes.{bytewise, unpacked}
use Rattle.protection.proofs.Marks.{marked_list}
use Rattle.protection.proofs.Unpacked.{mark_unpacked}

module _ (x : ProtectList) (packed : x.form ≡ bit_form) where
  -- it is the packed list of its bytes
  as_bits : bitwise x.bytes ≡ x
  as_bits = ap (λ (f : Form). record { form = f; bytes = x.bytes }) (sym packed)

  module _ (a v : ℕ) (digit : v < 2) where
    pub marked_here : holds x a ≡ true → is_protected (with_mark a v x) a ≡ eqb v 1
    marked_here =
        subst (λ (l : ProtectList). holds l a ≡ true → is_protected (with_mark a v l) a ≡ eqb v 1) as_bits
        (marked_list x.bytes a v digit).here

    pub marked_others : (b : ℕ) → (b ≡ a → ⊥) → is_protected (with_mark a v x) b ≡ is_protected x b
    marked_others =
        subst (λ (l : ProtectList). (b : ℕ) → (b ≡ a → ⊥) → is_protected (with_mark a v l) b ≡ is_protected l b) as_bits
        (marked_list x.bytes a v digit).others

    -- the list that it stands for is marked too
    pub marked_unpacked : (n : ℕ) → length x.bytes ≡ bit_form.cover_of n → a < n
        → bytewise (unpacked n (with_mark a v x).bytes) ≡ with_mark a v (bytewise (unpacked n x.bytes))
    marked_unpacked n cover inside =
        subst (λ (l : ProtectList). bytewise (unpacked n (with_mark a v l).bytes) ≡ with_mark a v (bytewise (unpacked n l.bytes))) as_bits
        (mark_unpacked n x.bytes a v cover inside digit)
