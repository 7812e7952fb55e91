-- `orders::general::general_at` meets its contract: a set or register that is not there, and the others.
-- Assumes nothing.
use mathlib.Core.Path.{sym}
use Rattle.orders.proofs.Generals.{no_set, no_register, register_there}
use Rattle.orders.proofs.general.general_at.Goals as goal

pub returns-then-s-gt1 : goal.returns-then-s-gt1
returns-then-s-gt1 c = sym (no_set _ _ _ c.if-s-gt1.true)

pub returns-then-r-gt7 : goal.returns-then-r-gt7
returns-then-r-gt7 c = sym (no_register _ _ _ c.if-r-gt7.true)

pub returns : goal.returns
returns c = rw (register_there _ _ _ c.if-s-gt1.false c.if-r-gt7.false, ← c.general_cell.ensures)
