-- `unset::bits::float_bits` meets its contract: one bit, or two.
-- Assumes nothing.
use mathlib.Core.Path.{sym}
use lib.Bits.{or_zero_r}
use Prim.Native.Nat.{◌+◌, ◌%◌, ◌^◌}
use Rattle.machine.specs.Uses.{floats}
use Rattle.unset.specs.Bits.{bits_of}
use Rattle.unset.proofs.bits.float_bits.Goals as goal

pub returns-in-Short : goal.returns-in-Short
unfolding floats bits_of
returns-in-Short c = rw (c.single.ensures, c.in-Short.is) (sym (or_zero_r _))

pub returns-in-Long : goal.returns-in-Long
unfolding floats bits_of
returns-in-Long c =
    let r = c.args.r in
    rw (c.single-in-Long.ensures, c.single-in-Long-2.ensures, c.in-Long.is, or_zero_r (2 ^ ((r + 1) % 8)))
