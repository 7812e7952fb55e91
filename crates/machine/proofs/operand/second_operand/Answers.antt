-- `machine::operand::second_operand` meets its contract: by the callees; storage operands are there.
-- Assumes nothing.
use Rattle.machine.specs.Operand.{second_operand}
use Rattle.machine.proofs.Checks.{reach}
use Rattle.machine.proofs.Placed.{some}
use Rattle.machine.proofs.Rows.{second_register}
use Rattle.machine.proofs.operand.second_operand.Goals as goal

pub float_operand-requires : goal.float_operand-requires
float_operand-requires c = second_register c.args.l

pub storage_operand-requires : goal.storage_operand-requires
storage_operand-requires c =
    reach _ _ _ (rw c.in-Storage.is at c.requires) (some c.args.l.operation.width)

pub returns-in-Nowhere : goal.returns-in-Nowhere
unfolding second_operand
returns-in-Nowhere c = rw (c.short.ensures, c.in-Nowhere.is)

pub returns-in-FloatRegister : goal.returns-in-FloatRegister
unfolding second_operand
returns-in-FloatRegister c = rw (c.float_operand.ensures, c.in-FloatRegister.is)

pub returns-in-GeneralRegister : goal.returns-in-GeneralRegister
unfolding second_operand
returns-in-GeneralRegister c = rw (c.short-in-GeneralRegister.ensures, c.general_at.ensures, c.in-GeneralRegister.is)

pub returns-in-Storage : goal.returns-in-Storage
unfolding second_operand
returns-in-Storage c = rw (c.storage_operand.ensures, c.in-Storage.is)
