-- `cause::storage::lowest_absent` meets its contract: memory ends before the addresses, among them or after them.
-- Assumes nothing.
use mathlib.Core.Path.{sym}
use native.Mathlib.Omega.{arith}
use Rattle.cause.proofs.Lowest.{absent_here, absent_end, absent_none}
use Rattle.cause.proofs.storage.lowest_absent.Goals as goal

pub returns-then-memory-at : goal.returns-then-memory-at
returns-then-memory-at c = sym (absent_here _ _ c.args.n c.if-memory-at.true)

pub returns-then-memory-end : goal.returns-then-memory-end
returns-then-memory-end c = let a = c.args in sym (absent_end a.memory a.at a.n (omega (arith, c.if-memory-at.false)) c.if-memory-end.true)

pub returns : goal.returns
returns c = let a = c.args in sym (absent_none a.memory a.at a.n c.if-memory-end.false)
