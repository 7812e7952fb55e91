-- `protection::list::is_protected` meets its contract: past the end of the list nothing is protected.
-- Assumes nothing.
use Prim.Native.Nat.{◌/◌, ◌≤◌}
use lib.ListN.{length, get_or-eq_default}
use Rattle.protection.specs.Form.{is_protected}
use Rattle.protection.proofs.Bits.{no_bits}
use Rattle.protection.proofs.list.is_protected.Goals as goal

pub returns-then-list-i : goal.returns-then-list-i
unfolding is_protected
returns-then-list-i c =
    let x = c.args in
    let past : length x.list.now ≤ x.a / 8 = rw (← c.byte_of-i.ensures) c.if-list-i.true in
    rw (get_or-eq_default x.list.now 0 past, no_bits x.a)

pub returns : goal.returns
unfolding is_protected
returns c = rw (c.bit.ensures, c.byte_of-i.ensures)
