-- What is asked of a deck, and each answer (document 02, Job 11).
use Rattle.std.specs.Prelude.{Option, Some, None, Result, Ok, Err, ℕ, ◌+◌, ◌/◌, ◌<◌, ◌≡◌, List, true, false, length}
use Rattle.hexfloat.specs.Answer.{Answer, gives, stops}
use Rattle.orders.specs.declared.order.Operation.{Operation}
use Rattle.orders.specs.General.{general_cell}
use Rattle.orders.specs.Order.{order_at, legal_of}
use Rattle.machine.specs.Check.{deck_sized}
use Rattle.machine.specs.Uses.{Register, float, general}
use Rattle.unset.specs.declared.answer.Refusal.{Refusal}
use Rattle.unset.specs.declared.answer.Unset.{Unset}
use Rattle.unset.specs.declared.answer.Register as code
use Rattle.unset.specs.Path.{point, Reads, ReachedUnwritten}

-- order p reads register r, which some path reaches it without having written
pub record ReadUnset (d : List ℕ) (p : ℕ) (r : Register) : Type 0 where
  pub selector : ℕ
  pub reads : Reads d (point p selector) r
  pub reached : ReachedUnwritten d r (point p selector)

-- floats first, then set 0, then set 1, lowest number first: eight of each
abbrev pub rank : Register → ℕ
rank (float r) = r
rank (general s r) = 8 + general_cell s r

-- the lowest such order, and the lowest such register of it
pub record LowestUnset (d : List ℕ) (p : ℕ) (r : Register) : Type 0 where
  pub unset : ReadUnset d p r
  pub lowest_order : (q : ℕ) (t : Register) → q < p → ReadUnset d q t → ⊥
  pub lowest_register : (t : Register) → rank t < rank r → ReadUnset d p t → ⊥

-- what may be found in a deck
pub data Finding : Type 0 where
  nothing : Finding
  unset : ℕ → Register → Finding

-- order p passes check 5
pub record Legal (d : List ℕ) (p : ℕ) : Type 0 where
  pub operation : Operation
  pub legal : legal_of (order_at d p) ≡ gives operation

-- checks 1 and 5 pass, the latter for every order, reached or not
pub record Checked (d : List ℕ) : Type 0 where
  pub sized : deck_sized (length d) ≡ true
  pub legal : (p : ℕ) → p < length d / 4 → Legal d p

-- each answer, and when it is given: the number of the first check that does not pass; nothing only if there is no such path for any order
pub data Answers (d : List ℕ) : Answer Finding → Type 0 where
  wrong_size : deck_sized (length d) ≡ false → Answers d (stops 1)
  illegal : deck_sized (length d) ≡ true → (p : ℕ) → p < length d / 4 → legal_of (order_at d p) ≡ stops 5 → Answers d (stops 5)
  none : Checked d → ((p : ℕ) (r : Register) → ReadUnset d p r → ⊥) → Answers d (gives nothing)
  lowest : {p : ℕ} {r : Register} → Checked d → LowestUnset d p r → Answers d (gives (unset p r))

-- what the code's answer says
abbrev pub says_register : code.Register → Register
says_register (code.Register.Float r) = float r
says_register (code.Register.Set0 r) = general 0 r
says_register (code.Register.Set1 r) = general 1 r

abbrev pub says_unset : Option Unset → Finding
says_unset None = nothing
says_unset (Some u) = unset u.order (says_register u.register)

abbrev pub refusal_number : Refusal → ℕ
refusal_number Refusal.DeckSize = 1
refusal_number Refusal.IllegalOrder = 5

abbrev pub says_found : Result (Option Unset) Refusal → Answer Finding
says_found (Ok u) = gives (says_unset u)
says_found (Err r) = stops (refusal_number r)
