-- What the functions of the walk say of their results, in the terms of the format.
use Rattle.std.specs.Prelude.{Option, Some, None, Result, Ok, Err, ℕ, ◌+◌, ◌-◌, ◌*◌, ◌≤◌, ◌<◌, ◌≡◌, List, [], Bool, true, false, cond, ◌&&◌, length, get_or, take, drop, eqb, leb, ltb}
use Rattle.std.specs.Borrow.{Bor}
use Rattle.hexfloat.specs.Answer.{Answer, gives, stops, provided, and_then}
use Rattle.orders.specs.declared.order.Order.{Order}
use Rattle.protection.specs.Bits.{bit_form}
use Rattle.decktext.specs.declared.fault.Fault.{Fault}
use Rattle.decktext.specs.declared.given.Given.{Given as GivenLine}
use Rattle.decktext.specs.declared.given.Halfword.{Halfword as GivenHalfword}
use Rattle.decktext.specs.declared.staged.Staged.{Staged}
use Rattle.decktext.specs.declared.line.Wanted.{Wanted as WantedLine}
use Rattle.decktext.specs.declared.line.Progress.{Progress as Place}
use Rattle.decktext.specs.declared.line.Sizes.{Sizes}
use Rattle.decktext.specs.declared.reader.LineSpan.{LineSpan}
use Rattle.decktext.specs.declared.refusal.Refusal.{Refusal}
use Rattle.decktext.specs.Fault.{fault_number}
use Rattle.decktext.specs.Text.{same, lines_of}
use Rattle.decktext.specs.Value.{all, marked_digit, number_from, mnemonic_code, decimal_of, protect_of, word_of}
use Rattle.decktext.specs.Format.{deck_heading, storage_heading, legal, Halfword}
use Rattle.decktext.specs.Read.{Buffers, Said, taken, refused, says_reading, Wanted, heading, order, storage, halfword, Progress, start, Given, headed, ordered, parted, stored, order_fits, halfword_fits, Read, whole, faulty, lines_read}
use Rattle.decktext.specs.Staged.{replayed, Landing}

-- r is the first place from `from` on, and before `end`, that holds the byte b, or `end`
pub record Stretch (t : List ℕ) (from end b r : ℕ) : Type 0 where
  pub low : from ≤ r
  pub high : r ≤ end
  pub before : (k : ℕ) → k < r → from ≤ k → get_or t k 0 ≡ b → ⊥
  pub found : r < end → get_or t r 0 ≡ b

-- the line at a place ends at its LF, or at the text's end where no LF follows, and the next one begins after it; past the text there is no line
pub record LineFrom (t : List ℕ) (at : ℕ) (l : LineSpan) : Type 0 where
  pub inside : at ≤ length t → Stretch t at (length t) 10 l.end
  pub past : length t < at → l.end ≡ length t
  pub after : l.end < length t → l.next ≡ l.end + 1
  pub last : length t ≤ l.end → l.next ≡ l.end

-- the line from a place within the text, where an LF ends it, and the place after it; or none, and the text's end
abbrev pub LineRead : List ℕ → ℕ → ℕ → Option (Bor (List ℕ)) → Type 0
LineRead t at next (Some l) = (e : ℕ) × Stretch t at (length t) 10 e × (e < length t) × (next ≡ e + 1) × (l.now ≡ take (e - at) (drop at t))
LineRead t at next None = Stretch t at (length t) 10 (length t) × (next ≡ length t)

-- the number of some digits in a base, at most 65,535
abbrev pub digit_in : ℕ → ℕ → Bool
digit_in base b = ltb (marked_digit b) base

unfoldable pub number_in : ℕ → List ℕ → Answer ℕ
number_in base v = provided (all (digit_in base) v && leb (number_from base 0 v) 65535) 16 (gives (number_from base 0 v))

abbrev pub wanted_of : WantedLine → Wanted
wanted_of WantedLine.Heading = heading
wanted_of WantedLine.Order = order
wanted_of WantedLine.Storage = storage
wanted_of WantedLine.Halfword = halfword

abbrev pub halfword_as : GivenHalfword → Halfword
halfword_as h = record { at = h.at; protect = h.protect; word = h.word }

abbrev pub given_of : GivenLine → Given
given_of GivenLine.Headed = headed
given_of (GivenLine.Ordered o) = ordered o
given_of GivenLine.Parted = parted
given_of (GivenLine.Stored h) = stored (halfword_as h)

abbrev pub says_judged : Result GivenLine Fault → Answer Given
says_judged (Ok g) = gives (given_of g)
says_judged (Err f) = stops (fault_number f)

-- the walk's place and some buffers
abbrev pub progress_of : Place → Buffers → Progress
progress_of p b = record { wanted = wanted_of p.wanted; count = p.count; least = p.least; held = b }

-- buffers of these sizes, with a packed protect list
pub record Sized (b : Buffers) (s : Sizes) : Type 0 where
  pub cells : length b.cells ≡ s.cells
  pub memory : length b.memory ≡ s.memory
  pub protect : length b.protect.bytes ≡ s.protect
  pub packed : b.protect.form ≡ bit_form

-- what a line gives fits buffers of these lengths; n orders came before
abbrev pub Storable : Given → ℕ → ℕ → ℕ → Type 0
Storable headed n c m = Unit {0}
Storable (ordered o) n c m = n * 4 + 4 ≤ c
Storable parted n c m = Unit {0}
Storable (stored h) n c m = (h.at < m) × (h.protect < 2)

-- how many values a line of so many bytes has: none for a heading and for the empty line
abbrev pub value_count : Wanted → ℕ → ℕ
value_count heading bytes = 0
value_count order bytes = cond (eqb bytes 0) 0 4
value_count storage bytes = 0
value_count halfword bytes = 3

-- a value in place i; the last one alone ends the line
abbrev pub in_place : ℕ → Bool → ℕ → Answer ℕ → Answer ℕ
in_place i true last a = provided (eqb i last) 16 a
in_place i false last a = cond (eqb i last) (stops 16) a

unfoldable pub value_as : Wanted → ℕ → Bool → List ℕ → Answer ℕ
value_as heading i ends v = stops 16
value_as order i ends v = in_place i ends 3 (cond (eqb i 0) (mnemonic_code v) (decimal_of v))
value_as storage i ends v = stops 16
value_as halfword i ends v = in_place i ends 2 (cond (eqb i 0) (decimal_of v) (cond (eqb i 1) (protect_of v) (word_of v)))

abbrev pub order_from_values : List ℕ → Order
order_from_values v = record { code = get_or v 0 0; r1 = get_or v 1 0; r2 = get_or v 2 0; at = get_or v 3 0 }

abbrev pub halfword_from_values : List ℕ → Halfword
halfword_from_values v = record { at = get_or v 0 0; protect = get_or v 1 0; word = get_or v 2 0 }

-- a line whose values are known
unfoldable pub judged_line : Wanted → Progress → List ℕ → List ℕ → Answer Given
judged_line heading p line v = provided (same line deck_heading) 16 (gives headed)
judged_line order p line v = cond (same line []) (gives parted) (and_then (legal (order_from_values v)) (order_fits p))
judged_line storage p line v = provided (same line storage_heading) 16 (gives headed)
judged_line halfword p line v = halfword_fits p (halfword_from_values v)

-- what the end of the text says
abbrev pub end_said : Wanted → ℕ → ℕ → Said
end_said heading n line = refused 16 line
end_said order n line = taken n
end_said storage n line = refused 16 line
end_said halfword n line = taken n

abbrev pub said_of : Read → Said
said_of (whole p) = taken p.count
said_of (faulty n k) = refused n k

-- a walk over the text: its answer, and what it has staged of a text without fault
pub record Walked (t : List ℕ) (b : Buffers) (s : Staged) (r : Result ℕ Refusal) : Type 0 where
  pub said : says_reading r ≡ said_of (lines_read (lines_of t) (start b) 1)
  pub held : (p : Progress) → lines_read (lines_of t) (start b) 1 ≡ whole p → p.held ≡ replayed s.values p.count s.halfwords b
  pub orders : (p : Progress) → lines_read (lines_of t) (start b) 1 ≡ whole p → p.count * 4 ≤ 16384
  pub landing : (p : Progress) → lines_read (lines_of t) (start b) 1 ≡ whole p → Landing s.values p.count s.halfwords (length b.memory)
