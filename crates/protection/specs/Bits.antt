-- One bit a halfword (document 02, Job 6): the form of the protect list.
use Rattle.std.specs.Prelude.{ℕ, ◌+◌, ◌*◌, ◌/◌, ◌%◌, ◌^◌, List, eqb}
use Rattle.protection.specs.Form.{Form, ProtectList}

-- bit k of a byte, the lowest being bit 0
abbrev pub bit_of : ℕ → ℕ → ℕ
bit_of k b = b / 2 ^ k % 2

-- the byte with v as bit k: the bits above it, v, the bits below it
unfoldable pub with_bit : ℕ → ℕ → ℕ → ℕ
with_bit k v b = (b / 2 ^ (k + 1) * 2 + v) * 2 ^ k + b % 2 ^ k

-- address a is bit a mod 8 of byte a / 8 rounded down; the length is memory's over 8, rounded up
abbrev pub bit_form : Form
bit_form = record {
  cover_of = λ memory. (memory + 7) / 8;
  byte_of = λ a. a / 8;
  protects = λ a b. eqb (bit_of (a % 8) b) 1;
  marked = λ a v b. with_bit (a % 8) v b;
}

abbrev pub bitwise : List ℕ → ProtectList
bitwise p = record { form = bit_form; bytes = p }
