-- `machine::change::put` meets its contract: each arm computes its case for both sets.
-- Assumes nothing.
use Rattle.std.proofs.Common.{arith}
use Rattle.machine.proofs.Placed.{registered_float, registered_pair, registered_general}
use Rattle.machine.proofs.change.put.Goals as goal

pub bounds-float-r : goal.bounds-float-r
bounds-float-r c = omega (arith, registered_float c.in-Float.is c.requires.0)

pub bounds-float-r-in-Pair : goal.bounds-float-r-in-Pair
bounds-float-r-in-Pair c = omega (arith, registered_pair c.in-Pair.is c.requires.0)

pub bounds-general-general_cell : goal.bounds-general-general_cell
bounds-general-general_cell c =
    omega (arith, c.general_cell.ensures, registered_general c.in-General.is c.requires.0, c.requires.1)
