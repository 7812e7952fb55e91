-- One byte a halfword (document 01, 'Lent', as it was before Job 6): the form before, which nothing but theorems speaks of.
use Rattle.std.specs.Prelude.{ℕ, zero, suc, List, [], ◌∷◌, ◌++◌, cond, not, eqb}
use Rattle.protection.specs.Form.{Form, ProtectList, is_protected}
use Rattle.protection.specs.Bits.{bitwise}

-- the length is memory's; non-zero means protected
abbrev pub byte_form : Form
byte_form = record {
  cover_of = λ memory. memory;
  byte_of = λ a. a;
  protects = λ a b. not (eqb b 0);
  marked = λ a v b. v;
}

abbrev pub bytewise : List ℕ → ProtectList
bytewise q = record { form = byte_form; bytes = q }

-- the list that a packed one stands for: a byte 1 or 0 for each of n halfwords
unfoldable pub unpacked : ℕ → List ℕ → List ℕ
unpacked zero p = []
unpacked (suc n) p = unpacked n p ++ (cond (is_protected (bitwise p) n) 1 0 ∷ [])
