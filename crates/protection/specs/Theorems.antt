-- What is proved of protect lists (document 02, Job 6). The proofs are in proofs/Theorems.antt.
use Rattle.std.specs.Prelude.{ℕ, ◌<◌, ◌≡◌, List, true, length, eqb}
use Rattle.protection.specs.Form.{ProtectList, covers, holds, is_protected, with_mark}
use Rattle.protection.specs.Bits.{bit_form, bitwise}
use Rattle.protection.specs.Bytes.{bytewise, unpacked}

-- two lists that say the same of n halfwords: both have the length for them or neither has, and where they have it they protect the same ones
pub record Alike (n : ℕ) (p q : ProtectList) : Type 0 where
  pub length_alike : covers p n ≡ covers q n
  pub bits_alike : covers p n ≡ true → (a : ℕ) → a < n → is_protected p a ≡ is_protected q a

-- the list with an address marked v, 0 or 1: the address is protected if v is 1, every other as it was
pub record Marked (p : List ℕ) (a v : ℕ) : Type 0 where
  pub here : holds (bitwise p) a ≡ true → is_protected (with_mark a v (bitwise p)) a ≡ eqb v 1
  pub others : (b : ℕ) → (b ≡ a → ⊥) → is_protected (with_mark a v (bitwise p)) b ≡ is_protected (bitwise p) b
  pub size : length (with_mark a v (bitwise p)).bytes ≡ length p

pub record Packing : Type 0 where
  -- a packed list says of n halfwords what the list says that it stands for
  pub stands_for : (n : ℕ) (p : List ℕ) → length p ≡ bit_form.cover_of n → Alike n (bitwise p) (bytewise (unpacked n p))
  pub marked : (p : List ℕ) (a v : ℕ) → v < 2 → Marked p a v
  -- marking an address in it does the same to the list that it stands for
  pub mark_unpacked :
      (n : ℕ) (p : List ℕ) (a v : ℕ) → length p ≡ bit_form.cover_of n → a < n → v < 2 →
      bytewise (unpacked n (with_mark a v (bitwise p)).bytes) ≡ with_mark a v (bytewise (unpacked n p))
