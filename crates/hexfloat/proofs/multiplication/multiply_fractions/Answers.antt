-- `multiply_fractions` meets its contract: each partial product fits a u64, and so do their sums.
use Prim.Native.Nat.{◌+◌, ◌/◌, ◌^◌, ◌≤◌, ◌<◌}
use native.Mathlib.Omega.{arith}
use Rattle.hexfloat.proofs.Multiplied.{high_by_high, high_by_low, low_by_high, low_by_low, middle, parts_whole, high_by_low_most, low_by_high_most, low_by_low_most, first_part_most}
use Rattle.hexfloat.proofs.multiplication.multiply_fractions.Goals as goal
use Rattle.hexfloat.proofs.multiplication.multiply_fractions.Goals.{Start}

module _ (c : Start) where
  high_low : high_by_low c.args.a c.args.b ≤ 16 ^ 14
  high_low = high_by_low_most c.args.a c.args.b c.requires.0 c.requires.1

  low_high : low_by_high c.args.a c.args.b ≤ 16 ^ 14
  low_high = low_by_high_most c.args.a c.args.b c.requires.0 c.requires.1

  low_low : low_by_low c.args.a c.args.b ≤ 16 ^ 12
  low_low = low_by_low_most c.args.a c.args.b c.requires.0 c.requires.1

  first_part : high_by_high c.args.a c.args.b + middle c.args.a c.args.b / 16 ^ 6 < 16 ^ 16
  first_part = first_part_most c.args.a c.args.b c.requires.0 c.requires.1

pub returns : goal.returns
returns c = (parts_whole c.args.a c.args.b, omega arith)
