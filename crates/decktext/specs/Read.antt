-- Reading a deck text (document 01, 'Deck text'): which line is wanted at each number, and the first faulty line from the top, 16 before 17.
use Rattle.std.specs.Prelude.{Result, Ok, Err, ℕ, ◌+◌, ◌*◌, List, [], ◌∷◌, cond, length, set, leb, ltb}
use Rattle.hexfloat.specs.Answer.{Answer, gives, stops, provided, and_then}
use Rattle.protection.specs.Form.{ProtectList, holds, with_mark}
use Rattle.orders.specs.declared.order.Order.{Order}
use Rattle.decktext.specs.declared.fault.Fault.{Fault}
use Rattle.decktext.specs.declared.refusal.Refusal.{Refusal}
use Rattle.decktext.specs.Fault.{fault_number}
use Rattle.decktext.specs.Text.{Line, ended, unended, lines_of, same}
use Rattle.decktext.specs.Format.{deck_heading, storage_heading, order_of, Halfword, halfword_of}

-- cells of the deck, memory and protect list, in whatever form that is kept
pub record Buffers : Type 0 where
  pub cells : List ℕ
  pub memory : List ℕ
  pub protect : ProtectList

abbrev pub buffers : List ℕ → List ℕ → ProtectList → Buffers
buffers c m p = record { cells = c; memory = m; protect = p }

-- the order count, or the number and the line of a refusal
pub data Said : Type 0 where
  taken : ℕ → Said
  refused : ℕ → ℕ → Said

abbrev pub says_refusal : Refusal → Said
says_refusal (Refusal.Malformed l) = refused (fault_number Fault.Malformed) l
says_refusal (Refusal.NoRoom l) = refused (fault_number Fault.NoRoom) l

abbrev pub says_reading : Result ℕ Refusal → Said
says_reading (Ok n) = taken n
says_reading (Err r) = says_refusal r

-- the number and the line of a refusal; both are 0 where the text is taken
abbrev pub number_said : Said → ℕ
number_said (taken n) = 0
number_said (refused k l) = k

abbrev pub line_said : Said → ℕ
line_said (taken n) = 0
line_said (refused k l) = l

pub record Outcome : Type 0 where
  pub after : Buffers
  pub said : Said

abbrev pub outcome : Buffers → Said → Outcome
outcome b s = record { after = b; said = s }

-- the line that is wanted: the heading, an order or the empty line, the second heading, a memory line. The text may end at the second and the fourth.
pub data Wanted : Type 0 where
  heading : Wanted
  order : Wanted
  storage : Wanted
  halfword : Wanted

-- what the lines so far gave: the line wanted next, the orders, the lowest `at` that rises, and the buffers
pub record Progress : Type 0 where
  pub wanted : Wanted
  pub count : ℕ
  pub least : ℕ
  pub held : Buffers

abbrev pub start : Buffers → Progress
start b = record { wanted = heading; count = 0; least = 0; held = b }

-- what a line of the form gives
pub data Given : Type 0 where
  headed : Given
  ordered : Order → Given
  parted : Given
  stored : Halfword → Given

-- a 17 where the order's four cells don't fit
abbrev pub order_fits : Progress → Order → Answer Given
order_fits p o = provided (leb (p.count * 4 + 4) (length p.held.cells)) 17 (gives (ordered o))

-- `at` rises strictly; a 17 where it is past the end of memory, or its byte is past the end of the protect list
abbrev pub halfword_fits : Progress → Halfword → Answer Given
halfword_fits p h =
    provided (leb p.least h.at) 16
    (provided (ltb h.at (length p.held.memory)) 17
    (provided (holds p.held.protect h.at) 17
    (gives (stored h))))

-- one line, given how an order line is read: what it gives, or its fault, 16 before 17
abbrev pub line_by : (List ℕ → Answer Order) → Wanted → Progress → List ℕ → Answer Given
line_by orders heading p line = provided (same line deck_heading) 16 (gives headed)
line_by orders order p line = cond (same line []) (gives parted) (and_then (orders line) (order_fits p))
line_by orders storage p line = provided (same line storage_heading) 16 (gives headed)
line_by orders halfword p line = and_then (halfword_of line) (halfword_fits p)

abbrev pub line_as : Wanted → Progress → List ℕ → Answer Given
line_as w p line = line_by order_of w p line

unfoldable pub line_read : Progress → List ℕ → Answer Given
line_read p line = line_as p.wanted p line

-- the line wanted after a heading
abbrev pub after_heading : Wanted → Wanted
after_heading heading = order
after_heading order = order
after_heading storage = halfword
after_heading halfword = halfword

-- four cells at four times the order's place
abbrev pub with_cells : ℕ → Order → List ℕ → List ℕ
with_cells n o c = set (set (set (set c (n * 4) o.code) (n * 4 + 1) o.r1) (n * 4 + 2) o.r2) (n * 4 + 3) o.at

-- the buffers with what a line gives; n orders came before
unfoldable pub buffered_with : Given → ℕ → Buffers → Buffers
buffered_with headed n b = b
buffered_with (ordered o) n b = buffers (with_cells n o b.cells) b.memory b.protect
buffered_with parted n b = b
buffered_with (stored h) n b = buffers b.cells (set b.memory h.at h.word) (with_mark h.at h.protect b.protect)

-- the progress with what a line gives
unfoldable pub progressed : Given → Progress → Progress
progressed headed p = record { wanted = after_heading p.wanted; count = p.count; least = p.least; held = p.held }
progressed (ordered o) p = record { wanted = order; count = p.count + 1; least = p.least; held = buffered_with (ordered o) p.count p.held }
progressed parted p = record { wanted = storage; count = p.count; least = p.least; held = p.held }
progressed (stored h) p = record { wanted = halfword; count = p.count; least = h.at + 1; held = buffered_with (stored h) p.count p.held }

-- what all lines gave, or the number and the line of the first fault
pub data Read : Type 0 where
  whole : Progress → Read
  faulty : ℕ → ℕ → Read

-- the text ends: a wanted line that is missing is faulty at the number that it would have
abbrev pub end_read : Wanted → Progress → ℕ → Read
end_read heading p k = faulty 16 k
end_read order p k = whole p
end_read storage p k = faulty 16 k
end_read halfword p k = whole p

-- line k and those after it
abbrev pub read_on : Answer Given → Progress → ℕ → (Progress → Read) → Read
read_on (stops n) p k rest = faulty n k
read_on (gives g) p k rest = rest (progressed g p)

unfoldable pub lines_read_by : (Progress → List ℕ → Answer Given) → List Line → Progress → ℕ → Read
lines_read_by f [] p k = end_read p.wanted p k
lines_read_by f (unended l ∷ ls) p k = faulty 16 k
lines_read_by f (ended l ∷ ls) p k = read_on (f p l) p k (λ q. lines_read_by f ls q (k + 1))

abbrev pub lines_read : List Line → Progress → ℕ → Read
lines_read ls p k = lines_read_by line_read ls p k

-- a refused text leaves all buffers
abbrev pub concluded_with : Buffers → Read → Outcome
concluded_with b (whole p) = outcome p.held (taken p.count)
concluded_with b (faulty n k) = outcome b (refused n k)

-- text above its byte limit is refused first
abbrev pub read_text_by : (Progress → List ℕ → Answer Given) → List ℕ → Buffers → Outcome
read_text_by f t b = cond (ltb 32768 (length t)) (outcome b (refused 17 0)) (concluded_with b (lines_read_by f (lines_of t) (start b) 1))

unfoldable pub read_text : List ℕ → Buffers → Outcome
read_text t b = read_text_by line_read t b
