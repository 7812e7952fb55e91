-- `unset::uses::written` meets its contract: a legal order names registers alone.
-- Assumes nothing.
use Rattle.machine.proofs.Rows.{first_register}
use Rattle.unset.proofs.uses.written.Goals as goal

pub named_bits-requires : goal.named_bits-requires
named_bits-requires c = (c.requires, first_register c.args.l)
