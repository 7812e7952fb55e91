-- `normalise` meets its contract: the leading zero bits over four, less the digits above the fraction, are the leading zero digits.
use mathlib.Core.Path.{◌≡◌}
use Prim.Native.Nat.{ℕ, ◌+◌, ◌-◌, ◌*◌, ◌/◌, ◌^◌, ◌<◌}
use native.Mathlib.Nat.{lt_of_lt_of_le}
use native.Mathlib.Omega.{arith}
use lib.Count.{count_leading_zeros}
use Rattle.hexfloat.specs.Normal.{digits}
use Rattle.hexfloat.specs.Operand.{normalised}
use Rattle.hexfloat.proofs.Digits.{mono, moved_left}
use Rattle.hexfloat.proofs.Normalised.{leading_zeros, digits_few, moved_most}
use Rattle.hexfloat.proofs.normal.normalise.Goals as goal

pub overflow_sub-shift-2 : goal.overflow_sub-shift-2
overflow_sub-shift-2 c = omega (arith, leading_zeros c.requires, digits_few c.requires)

pub returns : goal.returns
unfolding normalised
returns c =
    let o = c.requires in
    let p = c.args.p in
    let d : ℕ = c.args.d in
    let z : ℕ = d - digits p.fraction in
    let shift : count_leading_zeros 64 p.fraction / 4 - (16 - d) ≡ z = omega (arith, leading_zeros o, digits_few o) in
    let fits : p.fraction * 16 ^ z < 2 ^ 64 = lt_of_lt_of_le (moved_most d p.fraction (digits_few o)) (mono {j = 16} (omega (arith, o.most))) in
    let place : p.characteristic + 14 - z ≡ p.characteristic + 14 + digits p.fraction - d = omega (arith, digits_few o) in
    rw shift (λ i. record { place = place i; fraction = moved_left p.fraction z fits i })
