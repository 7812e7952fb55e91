use Prim.Native.Nat.{ℕ, ◌*◌, ◌-◌, ◌≤◌}
use mathlib.Core.Path.{◌≡◌}
use lib.ListN.{take, drop}
use Rattle.std.specs.Slice.Iter.{chunks_exact_rest, chunks_exact_size}
use Rattle.protection.specs.Bits.{bitwise}
use Rattle.decktext.specs.Staged.{with_words, with_protects}
use Rattle.decktext.proofs.staged.Staged.put_halfwords.Given as goal

abbrev pub invariant-loop-h : goal.invariant-loop-h
invariant-loop-h l =
    (goal.iterator-loop-h).can_next l.h-iterator × (goal.iterator-loop-h).is_finite l.h-iterator
    × (chunks_exact_size l.h-iterator ≡ 3)
    × (k : ℕ) × (k ≤ l.self.halfwords) × (chunks_exact_rest l.h-iterator ≡ drop (k * 3) (take (l.end - l.start) (drop l.start l.self.values)))
    × (l.memory ≡ with_words l.self.values l.n k l.initial.memory) × (bitwise l.protect ≡ with_protects l.self.values l.n k (bitwise l.initial.protect))
