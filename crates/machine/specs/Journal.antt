-- The journal's records (document 01, 'Journal and back steps'; document 02, Jobs 8 and 12): four words a record. Word 0 is pointer + 2^16 · CC +
-- 2^18 · mask + 2^19 · kind + 2^22 · selector + 2^23 · seat, word 1 the register or address, words 2 and 3 contents, leftmost first; unused words are 0. A
-- general register is of the set that the record's own selector names, and every register is of the record's seat.
use Rattle.std.specs.Prelude.{Option, Some, None, ◌≡◌, ℕ, ◌+◌, ◌*◌, ◌/◌, ◌%◌, ◌^◌, ◌<◌, ◌≤◌, true, cond, List, ◌==◌, nat_le, nat_lt, slice_index, slice_set}
use Rattle.hexfloat.specs.Answer.{Answer, gives, stops, mapped, provided}
use Rattle.machine.specs.declared.change.Change.{Change}
use Rattle.machine.specs.declared.journal.Record.{Record}
use Rattle.machine.specs.declared.verdict.Effect.{Effect}
use Rattle.machine.specs.declared.state.Status.{Status}
use Rattle.machine.specs.Change.{registered}
use Rattle.machine.specs.Status.{condition_formed, packed, unpacked}

abbrev pub four_words : ℕ → ℕ → ℕ → ℕ → Record
four_words a b c d = record { head = a; place = b; left = c; right = d }

-- record k, and the journal with record k in it
abbrev pub record_at : List ℕ → ℕ → Record
record_at j k = four_words (slice_index j (k * 4)) (slice_index j (k * 4 + 1)) (slice_index j (k * 4 + 2)) (slice_index j (k * 4 + 3))

unfoldable pub written : List ℕ → ℕ → Record → List ℕ
written j k q = slice_set (slice_set (slice_set (slice_set j (k * 4) q.head) (k * 4 + 1) q.place) (k * 4 + 2) q.left) (k * 4 + 3) q.right

-- kind 0 nothing else changed, 1 a float register, 2 a float pair, 3 a general register, 4 two halfwords, 5 four; base is word 0 but for the kind
unfoldable pub encoded_as : ℕ → Change → Record
encoded_as base Change.Nothing = four_words base 0 0 0
encoded_as base (Change.Float r w) = four_words (base + 2 ^ 19 * 1) r w 0
encoded_as base (Change.Pair r hi lo) = four_words (base + 2 ^ 19 * 2) r hi lo
encoded_as base (Change.General r w) = four_words (base + 2 ^ 19 * 3) r w 0
encoded_as base (Change.Two a w) = four_words (base + 2 ^ 19 * 4) a w 0
encoded_as base (Change.Four a hi lo) = four_words (base + 2 ^ 19 * 5) a hi lo

-- the record of a step of seat k
abbrev pub encoded : ℕ → Effect → Record
encoded k e = encoded_as (packed e.status + 2 ^ 23 * k) e.change

-- the seat of a record
unfoldable pub seat_in : Record → ℕ
seat_in q = q.head / 2 ^ 23 % 2

-- what the code's answer says: a record that is not of its form is a 15
abbrev pub says_change : Option Change → Answer Change
says_change (Some ch) = gives ch
says_change None = stops 15

-- a register above 7, or an unused word that is not 0, breaks the form
abbrev pub in_register : ℕ → ℕ → Change → Answer Change
in_register r unused ch = provided (nat_le r 7) 15 (provided (unused == 0) 15 (gives ch))

-- the form of a record by its kind; a kind above 5 breaks it
unfoldable pub change_from : ℕ → ℕ → ℕ → ℕ → Answer Change
change_from kind place left right =
    cond (kind == 0) (provided (place == 0) 15 (provided (left == 0) 15 (provided (right == 0) 15 (gives Change.Nothing))))
    (cond (kind == 1) (in_register place right (Change.Float place left))
    (cond (kind == 2) (in_register place 0 (Change.Pair place left right))
    (cond (kind == 3) (in_register place right (Change.General place left))
    (cond (kind == 4) (provided (right == 0) 15 (gives (Change.Two place left)))
    (cond (kind == 5) (gives (Change.Four place left right))
    (stops 15))))))

abbrev pub effect_from : Status → Change → Effect
effect_from s ch = record { change = ch; status = s }

-- condition code 2 breaks the form too, and so does a bit above 23 in word 0
unfoldable pub decoded : Record → Answer Effect
decoded q =
    provided (condition_formed (unpacked q.head).condition) 15
    (provided (nat_lt q.head (2 ^ 24)) 15
    (mapped (effect_from (unpacked q.head)) (change_from (q.head / 2 ^ 19 % 8) q.place q.left q.right)))

-- the effects that have a record: condition code 0, 1 or 3, mask and selector 0 or 1, a 16-bit pointer, registers below 8
pub record Recordable (e : Effect) : Type 0 where
  pub condition : condition_formed e.status.condition ≡ true
  pub mask : e.status.mask ≤ 1
  pub selector : e.status.selector ≤ 1
  pub pointer : e.status.pointer < 65536
  pub registers : registered e.change ≡ true
