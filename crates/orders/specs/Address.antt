-- The address of the storage operand S: `at`, and what the index register adds to it (document 02, Jobs 7 and 8; 2.2.1).
use Rattle.std.specs.Prelude.{ℕ, ◌+◌, ◌%◌, List, cond, eqb}
use Rattle.orders.specs.declared.order.Order.{Order}
use Rattle.orders.specs.General.{general_at}

-- r from 1 to 7 names an index register of set s, of which the lower halfword counts, as an unsigned number; general register 0 cannot contain an
-- index
unfoldable pub index_of : ℕ → List ℕ → ℕ → ℕ
index_of r n s = cond (eqb r 0) 0 (general_at n s r % 65536)

-- the sum does not wrap: from 65,536 on it is an address past the end of any memory
unfoldable pub address_of : Order → List ℕ → ℕ → ℕ
address_of o n s = o.at + index_of o.r2 n s
