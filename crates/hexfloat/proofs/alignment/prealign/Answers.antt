-- `prealign` meets its contract: no characteristic is larger than the common one.
use native.Mathlib.Omega.{arith}
use Rattle.hexfloat.specs.Operand.{prealigned}
use Rattle.hexfloat.proofs.Aligned.{common_left, common_right}
use Rattle.hexfloat.proofs.alignment.prealign.Goals as goal

pub align-requires : goal.align-requires
align-requires c =
    let s = c.before in
    (s.requires.guards, omega (arith, c.common_characteristic-c.ensures, common_left s.args.x s.args.y), s.requires.first)

pub align-requires-2 : goal.align-requires-2
align-requires-2 c =
    let s = c.before.before in
    (s.requires.guards, omega (arith, c.common_characteristic-c.ensures, common_right s.args.x s.args.y), s.requires.second)

pub returns : goal.returns
unfolding prealigned
returns c = rw (c.align-2.ensures, c.align.ensures, c.common_characteristic-c.ensures)
