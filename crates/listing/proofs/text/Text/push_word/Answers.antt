use Prim.Native.Nat.{◌-◌, ◌/◌, ◌^◌}
use native.Mathlib.Omega.{arith}
use Rattle.listing.specs.Digits.{hexadecimal}
use Rattle.listing.proofs.Appends.{nothing, then}
use Rattle.listing.proofs.Words.{next_digit, word-length}
use Rattle.listing.proofs.text.Text.push_word.Goals as goal

pub loop-i-init : goal.loop-i-init
unfolding hexadecimal
loop-i-init g c = nothing

pub push-requires : goal.push-requires
push-requires g c = omega (arith, c.loop-i.invariant.size, word-length c.loop-i.i (c.args.w / 16 ^ (8 - c.loop-i.i)))

pub loop-i-preserved : goal.loop-i-preserved
loop-i-preserved g c = rw (next_digit c.args.w c.loop-i.i c.loop-i-test.true) (then c.loop-i.invariant (rw c.hex_digit.ensures at c.push.ensures))
