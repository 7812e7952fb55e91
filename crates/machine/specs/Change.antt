-- What a step or a back step overwrites (document 01, 'Journal and back steps').
use Rattle.std.specs.Prelude.{ℕ, ◌+◌, ◌/◌, ◌%◌, Bool, true, false, List, nat_le, slice_set}
use Rattle.hexfloat.specs.declared.word.Width.{Width}
use Rattle.hexfloat.specs.declared.word.Words.{Words}
use Rattle.protection.specs.Form.{ProtectList}
use Rattle.machine.specs.declared.change.Change.{Change}
use Rattle.machine.specs.declared.state.Registers.{Registers}
use Rattle.machine.specs.declared.verdict.Effect.{Effect}
use Rattle.machine.specs.Check.{any_protected}
use Rattle.orders.specs.General.{general_cell, general_at}
use Rattle.machine.specs.Operand.{float_at, float_pair, word_at, long_at}

-- no register above 7
unfoldable pub registered : Change → Bool
registered Change.Nothing = true
registered (Change.Float r w) = nat_le r 7
registered (Change.Pair r hi lo) = nat_le r 7
registered (Change.General r w) = nat_le r 7
registered (Change.Two a w) = true
registered (Change.Four a hi lo) = true

-- no halfword absent
unfoldable pub placed : Change → ℕ → Bool
placed Change.Nothing memory = true
placed (Change.Float r w) memory = true
placed (Change.Pair r hi lo) memory = true
placed (Change.General r w) memory = true
placed (Change.Two a w) memory = nat_le (a + 2) memory
placed (Change.Four a hi lo) memory = nat_le (a + 4) memory

-- a halfword to be stored is protected
unfoldable pub guarded : ProtectList → Change → Bool
guarded p Change.Nothing = false
guarded p (Change.Float r w) = false
guarded p (Change.Pair r hi lo) = false
guarded p (Change.General r w) = false
guarded p (Change.Two a w) = any_protected p a 2
guarded p (Change.Four a hi lo) = any_protected p a 4

-- a pair with its two words
abbrev pub pair_of : ℕ → Words → Change
pair_of r a = Change.Pair r a.high a.low

abbrev pub four_of : ℕ → Words → Change
four_of at a = Change.Four at a.high a.low

-- a result or operand into R r, or into pair r; the second register of a pair stays under a short order
unfoldable pub float_change : Width → ℕ → Words → Change
float_change Width.Short r a = Change.Float r a.high
float_change Width.Long r a = pair_of r a

-- an operand into S
unfoldable pub storage_change : Width → ℕ → Words → Change
storage_change Width.Short at a = Change.Two at a.high
storage_change Width.Long at a = four_of at a

-- the same places with their present contents, a general register being of the selected set
unfoldable pub old_of : Registers → List ℕ → Change → Change
old_of g m Change.Nothing = Change.Nothing
old_of g m (Change.Float r w) = Change.Float r (float_at g.float r)
old_of g m (Change.Pair r hi lo) = pair_of r (float_pair g.float r)
old_of g m (Change.General r w) = Change.General r (general_at g.general g.status.selector r)
old_of g m (Change.Two a w) = Change.Two a (word_at m a)
old_of g m (Change.Four a hi lo) = four_of a (long_at m a)

unfoldable pub float_after : Change → List ℕ → List ℕ
float_after Change.Nothing f = f
float_after (Change.Float r w) f = slice_set f r w
float_after (Change.Pair r hi lo) f = slice_set (slice_set f r hi) ((r + 1) % 8) lo
float_after (Change.General r w) f = f
float_after (Change.Two a w) f = f
float_after (Change.Four a hi lo) f = f

-- a general register is of set s; the other set keeps its contents
unfoldable pub general_after : Change → List ℕ → ℕ → List ℕ
general_after Change.Nothing n s = n
general_after (Change.Float r w) n s = n
general_after (Change.Pair r hi lo) n s = n
general_after (Change.General r w) n s = slice_set n (general_cell s r) w
general_after (Change.Two a w) n s = n
general_after (Change.Four a hi lo) n s = n

-- two halfwords, the left one high
abbrev pub put_word : ℕ → ℕ → List ℕ → List ℕ
put_word a w m = slice_set (slice_set m a (w / 65536 % 65536)) (a + 1) (w % 65536)

unfoldable pub memory_after : Change → List ℕ → List ℕ
memory_after Change.Nothing m = m
memory_after (Change.Float r w) m = m
memory_after (Change.Pair r hi lo) m = m
memory_after (Change.General r w) m = m
memory_after (Change.Two a w) m = put_word a w m
memory_after (Change.Four a hi lo) m = put_word (a + 2) lo (put_word a hi m)

-- the set is the one that the effect's own status selects: a back step's is the record's, and a step that changes a general register keeps its selector
abbrev pub registers_after : Effect → Registers → Registers
registers_after e g = record {
  float = float_after e.change g.float;
  general = general_after e.change g.general e.status.selector;
  status = e.status;
}
