-- `unset::uses::second_read` meets its contract: a legal order names registers alone.
-- Assumes nothing.
use Rattle.machine.proofs.Rows.{second_register}
use Rattle.unset.proofs.uses.second_read.Goals as goal

pub float_bits-requires : goal.float_bits-requires
float_bits-requires c = second_register c.args.l

pub general_bit-requires : goal.general_bit-requires
general_bit-requires c = (c.requires, second_register c.args.l)

pub index_read-requires : goal.index_read-requires
index_read-requires c = (c.requires, second_register c.args.l)
