-- `multiply_short` meets its contract: the product of the fractions is whole, and its first digits are kept.
use Prim.Native.Nat.{◌*◌, ◌^◌}
use Rattle.hexfloat.specs.declared.word.Parts.{Parts}
use Rattle.hexfloat.specs.Multiply.{product}
use Rattle.hexfloat.specs.Operand.{Factors}
use Rattle.hexfloat.specs.Word.{digits_of, magnitude}
use Rattle.hexfloat.proofs.Digits.{pos}
use Rattle.hexfloat.proofs.Fits.{width_fits}
use Rattle.hexfloat.proofs.Multiplied.{short_placed}
use Rattle.hexfloat.proofs.multiplication.multiply_short.Goals as goal
use Rattle.hexfloat.proofs.multiplication.multiply_short.Goals.{After-struct_known-6-1, Start}

module _ (c : After-struct_known-6-1) where
  abbrev start : Start
  start = c.before.before.before.before.before.before

  abbrev x : Parts
  x = start.args.x

  abbrev y : Parts
  y = start.args.y

  factors : Factors 6 x y
  factors = start.requires

pub returns : goal.returns
unfolding product
returns c =
    let s = c.before in
    c.normalised_result.ensures (magnitude 6 (x s) * magnitude 6 (y s)) (16 ^ 156) (pos 156) (short_placed (factors s) (digits_of (start s).args.width) (width_fits (start s).args.width).1)
