-- What is proved of the reader, in the words of document 01, 'Deck text'. The proofs are in proofs/Theorems.antt.
use Rattle.std.specs.Prelude.{ℕ, ◌+◌, ◌<◌, ◌≤◌, ◌≡◌, List, [], ◌∷◌, ◌++◌, eqb, length, get_or}
use Rattle.hexfloat.specs.Answer.{gives, stops}
use Rattle.orders.specs.declared.order.Order.{Order}
use Rattle.orders.specs.Order.{order_at}
use Rattle.protection.specs.Form.{is_protected}
use Rattle.protection.specs.Bits.{bit_form, bitwise}
use Rattle.protection.specs.Bytes.{bytewise, unpacked}
use Rattle.decktext.specs.Text.{Line, ended, unended, lines_of}
use Rattle.decktext.specs.Format.{Halfword}
use Rattle.decktext.specs.Read.{Buffers, buffers, Said, refused, taken, Wanted, heading, order, storage, halfword, Progress, start, Given, ordered, stored, line_read, progressed, outcome, read_text}
use Rattle.decktext.specs.Unindexed.{unindexed_read_text, NoIndexLines}

-- each of these lines is ended, well formed and fits, and they take p to q
abbrev pub Through : List Line → Progress → Progress → Type 0
Through [] p q = p ≡ q
Through (unended l ∷ ls) p q = ⊥
Through (ended l ∷ ls) p q = (g : Given) × (line_read p l ≡ gives g) × Through ls (progressed g p) q

-- the first line of the rest of a text is faulty, with the number n: it is missing, unended, or doesn't read
abbrev pub Missing : Wanted → Type 0
Missing heading = Unit {0}
Missing order = ⊥
Missing storage = Unit {0}
Missing halfword = ⊥

abbrev pub Faulty : List Line → Progress → ℕ → Type 0
Faulty [] p n = Missing p.wanted × (n ≡ 16)
Faulty (unended l ∷ ls) p n = n ≡ 16
Faulty (ended l ∷ ls) p n = line_read p l ≡ stops n

-- The line of a refusal is the first faulty one: every line before it is well formed and fits.
pub record FirstFault (t : List ℕ) (b : Buffers) (n k : ℕ) : Type 0 where
  pub before : List Line
  pub rest : List Line
  pub reached : Progress
  pub text : lines_of t ≡ before ++ rest
  pub number : k ≡ length before + 1
  pub through : Through before (start b) reached
  pub faulty : Faulty rest reached n

-- What is accepted is written as the grammar says. All its lines go through, and of each of them, whatever lines come after it,
-- the order's four cells stand at four times its place, which is two below its line number, a memory line's word at its `at`, and its protect digit
-- as the bit of its `at` in a packed list.
pub record Written (t : List ℕ) (b : Buffers) : Type 0 where
  pub through : (before after : List Line) → lines_of t ≡ before ++ after → (p : Progress) × Through before (start b) p
  pub order : (before after : List Line) (line : List ℕ) (p : Progress) (o : Order) → lines_of t ≡ before ++ (ended line ∷ after) → Through before (start b) p
      → line_read p line ≡ gives (ordered o) → (length before ≡ p.count + 1) × (order_at (read_text t b).after.cells p.count ≡ o)
  pub word : (before after : List Line) (line : List ℕ) (p : Progress) (h : Halfword) → lines_of t ≡ before ++ (ended line ∷ after) → Through before (start b) p
      → line_read p line ≡ gives (stored h) → get_or (read_text t b).after.memory h.at 0 ≡ h.word
  pub protect : b.protect.form ≡ bit_form → (before after : List Line) (line : List ℕ) (p : Progress) (h : Halfword) → lines_of t ≡ before ++ (ended line ∷ after)
      → Through before (start b) p → line_read p line ≡ gives (stored h) → is_protected (read_text t b).after.protect h.at ≡ eqb h.protect 1

-- One of the numbers: a reading answers its count, or 16 or 17 with the line. Line 0 is a text above its limit of 32,768 bytes, and that is a 17.
pub data Numbered (t : List ℕ) : Said → Type 0 where
  count : (n : ℕ) → length t ≤ 32768 → Numbered t (taken n)
  malformed : (line : ℕ) → 0 < line → length t ≤ 32768 → Numbered t (refused 16 line)
  no_room : (line : ℕ) → 0 < line → length t ≤ 32768 → Numbered t (refused 17 line)
  above_limit : 32768 < length t → Numbered t (refused 17 0)

-- The order lines of a text: the lines after the heading up to the first empty line or the end.
abbrev pub after_first : List Line → List Line
after_first [] = []
after_first (l ∷ ls) = ls

abbrev pub up_to_empty : List Line → List Line
up_to_empty [] = []
up_to_empty (unended l ∷ ls) = unended l ∷ up_to_empty ls
up_to_empty (ended [] ∷ ls) = []
up_to_empty (ended (b ∷ l) ∷ ls) = ended (b ∷ l) ∷ up_to_empty ls

abbrev pub order_lines : List ℕ → List Line
order_lines t = up_to_empty (after_first (lines_of t))

-- buffers with a packed protect list, and the same buffers with the list that it stands for
abbrev pub packed_with : List ℕ → List ℕ → List ℕ → Buffers
packed_with c m p = buffers c m (bitwise p)

abbrev pub stands_for : Buffers → Buffers
stands_for b = buffers b.cells b.memory (bytewise (unpacked (length b.memory) b.protect.bytes))

-- The reader.
pub record Reader : Type 0 where
  pub refusal : (t : List ℕ) (b : Buffers) (n k : ℕ) → length t ≤ 32768 → (read_text t b).said ≡ refused n k → FirstFault t b n k
  pub accepted : (t : List ℕ) (b : Buffers) (n : ℕ) → (read_text t b).said ≡ taken n → Written t b
  pub numbered : (t : List ℕ) (b : Buffers) → Numbered t (read_text t b).said
  pub counted : (t : List ℕ) (b : Buffers) (n : ℕ) → (read_text t b).said ≡ taken n → n ≡ length (order_lines t)
  -- what is left packed stands for what the same text leaves with a byte a halfword: the same answer, cells and memory, and the list that it stands for
  pub as_before : (t c m p : List ℕ) → length p ≡ bit_form.cover_of (length m)
      → read_text t (stands_for (packed_with c m p)) ≡ outcome (stands_for (read_text t (packed_with c m p)).after) (read_text t (packed_with c m p)).said
  -- a text none of whose order lines names an index is read as it was before storage orders were indexed (document 02, Job 7)
  pub unindexed : (t : List ℕ) (b : Buffers) → NoIndexLines (lines_of t) → read_text t b ≡ unindexed_read_text t b
