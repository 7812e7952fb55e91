-- `machine::change::store` meets its contract: each arm computes its case of `memory_after`; a word is stored by `put_word`.
-- Assumes nothing.
use Rattle.std.proofs.Common.{arith}
use Rattle.machine.proofs.Placed.{placed_two, placed_four}
use Rattle.machine.proofs.change.store.Goals as goal

pub put_word-requires : goal.put_word-requires
put_word-requires c = placed_two c.in-Two.is c.requires

pub put_word-requires-in-Four : goal.put_word-requires-in-Four
put_word-requires-in-Four c = omega (arith, placed_four c.in-Four.is c.requires)

pub put_word-requires-in-Four-2 : goal.put_word-requires-in-Four-2
put_word-requires-in-Four-2 c =
    omega (
      arith,
      placed_four c.in-Four.is c.requires,
      c.put_word-in-Four.auto,
    )
