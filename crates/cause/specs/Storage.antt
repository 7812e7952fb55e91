-- The addresses of S that checks 6 and 7 refuse (document 01, rows 6 and 7 of the causes; document 02, Job 5).
use Rattle.std.specs.Prelude.{ℕ, zero, suc, ◌+◌, ◌<◌, ◌≤◌, ◌≡◌, Bool, true, false, cond, leb}
use Rattle.hexfloat.specs.Answer.{Answer, gives, stops}
use Rattle.orders.specs.declared.order.Operation.{Operation}
use Rattle.orders.specs.declared.order.Order.{Order}
use Rattle.orders.specs.Order.{legal_of, span_of, stored_of}
use Rattle.protection.specs.Form.{ProtectList, is_protected}

-- the lowest of n addresses from a on that a check refuses, a + n where it refuses none
unfoldable pub lowest : (ℕ → Bool) → ℕ → ℕ → ℕ
lowest refuses a zero = a
lowest refuses a (suc n) = cond (refuses a) a (lowest refuses (a + 1) n)

-- x is one of n addresses from a on, the check refuses it, and it lets pass each lower one
pub record IsLowest (refuses : ℕ → Bool) (a n x : ℕ) : Type 0 where
  pub from : a ≤ x
  pub below : x < a + n
  pub refused : refuses x ≡ true
  pub passed : (b : ℕ) → a ≤ b → b < x → refuses b ≡ false

-- past the end of so many halfwords
abbrev pub is_absent : ℕ → ℕ → Bool
is_absent memory a = leb memory a

-- how many halfwords S has, and how many of them are stored to, by the answer of check 5: an illegal order has no S
abbrev pub span_in : Answer Operation → ℕ
span_in (gives op) = span_of op
span_in (stops k) = 0

abbrev pub stored_in : Answer Operation → ℕ
stored_in (gives op) = stored_of op
stored_in (stops k) = 0

-- the lowest absent address of S, which begins at a, and the lowest protected one
unfoldable pub lowest_absent : Order → ℕ → ℕ → ℕ
lowest_absent o a memory = lowest (is_absent memory) a (span_in (legal_of o))

unfoldable pub lowest_protected : Order → ℕ → ProtectList → ℕ
lowest_protected o a p = lowest (is_protected p) a (stored_in (legal_of o))
