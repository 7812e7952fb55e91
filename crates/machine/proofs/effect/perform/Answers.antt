-- `machine::effect::perform` meets its contract: a legal order's r1 is a register.
-- Assumes nothing.
use Rattle.machine.proofs.Rows.{first_register}
use Rattle.machine.proofs.effect.perform.Goals as goal

pub float_operand-requires : goal.float_operand-requires
float_operand-requires c = first_register c.args.l

pub float_operand-requires-in-Divide : goal.float_operand-requires-in-Divide
float_operand-requires-in-Divide c = first_register c.args.l

pub float_operand-a-requires : goal.float_operand-a-requires
float_operand-a-requires c = first_register c.args.l

pub float_operand-a-requires-in-Sum : goal.float_operand-a-requires-in-Sum
float_operand-a-requires-in-Sum c = first_register c.args.l

pub float_operand-requires-in-Multiply : goal.float_operand-requires-in-Multiply
float_operand-requires-in-Multiply c = first_register c.args.l
