-- A reading as C sees it: a number and a value (document 01, causes 16 and 17).
use Rattle.std.specs.Prelude.{ℕ}
use Rattle.decktext.specs.Read.{Buffers, Said, taken, refused, Outcome}

-- 0 for a text that was taken, else the number of its refusal
abbrev pub number_said : Said → ℕ
number_said (taken n) = 0
number_said (refused k l) = k

-- the order count, or the line of the refusal
abbrev pub value_said : Said → ℕ
value_said (taken n) = n
value_said (refused k l) = l

pub record Reply : Type 0 where
  pub after : Buffers
  pub number : ℕ
  pub value : ℕ

abbrev pub reply : Buffers → ℕ → ℕ → Reply
reply b n v = record { after = b; number = n; value = v }

abbrev pub replied : Outcome → Reply
replied o = reply o.after (number_said o.said) (value_said o.said)
