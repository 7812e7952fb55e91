-- The protect list (document 01, 'Lent'), whatever form it is kept in. What is asked of a list and written to it is said once, over the form.
use Rattle.std.specs.Prelude.{ℕ, List, Bool, length, get_or, set, eqb, ltb}

pub record Form : Type 0 where
  -- how long the list for so many halfwords is
  pub cover_of : ℕ → ℕ
  -- which byte speaks of an address
  pub byte_of : ℕ → ℕ
  -- whether that byte protects the address
  pub protects : ℕ → ℕ → Bool
  -- that byte with the address marked: 1 is protected, 0 is not
  pub marked : ℕ → ℕ → ℕ → ℕ

-- a list in its form
pub record ProtectList : Type 0 where
  pub form : Form
  pub bytes : List ℕ

-- of the length that so many halfwords want (check 2)
unfoldable pub covers : ProtectList → ℕ → Bool
covers p memory = eqb (length p.bytes) (p.form.cover_of memory)

-- the byte that speaks of an address
abbrev pub byte_at : ProtectList → ℕ → ℕ
byte_at p a = get_or p.bytes (p.form.byte_of a) 0

-- whether it is there
unfoldable pub holds : ProtectList → ℕ → Bool
holds p a = ltb (p.form.byte_of a) (length p.bytes)

-- the halfword at an address is protected
unfoldable pub is_protected : ProtectList → ℕ → Bool
is_protected p a = p.form.protects a (byte_at p a)

-- the list with an address marked v; everything else stays
unfoldable pub with_mark : ℕ → ℕ → ProtectList → ProtectList
with_mark a v p = record { form = p.form; bytes = set p.bytes (p.form.byte_of a) (p.form.marked a v (byte_at p a)) }
