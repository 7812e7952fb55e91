-- `normalised_result` meets its contract: the leading zero bits over four are the leading zero digits, and the shifts lose what is cut alone.
use mathlib.Core.Path.{◌≡◌, sym}
use Prim.Native.Nat.{ℕ, ◌+◌, ◌-◌, ◌*◌, ◌/◌, ◌%◌, ◌^◌}
use native.Mathlib.Omega.{arith}
use lib.Count.{count_leading_zeros}
use Rattle.hexfloat.specs.declared.word.Width.{Width}
use Rattle.hexfloat.specs.Normal.{digits}
use Rattle.hexfloat.specs.Operand.{first_digits}
use Rattle.hexfloat.specs.Word.{digits_of}
use Rattle.hexfloat.proofs.Digits.{leading_digits}
use Rattle.hexfloat.proofs.Placed.{same_place}
use Rattle.hexfloat.proofs.Wholes.{moved_right}
use Rattle.hexfloat.proofs.result.normalised_result.Goals as goal
use Rattle.hexfloat.proofs.result.normalised_result.Goals.{After-digits-d}

module _ (c : After-digits-d) where
  abbrev w : Width
  w = c.args.width

  abbrev m : ℕ
  m = c.args.m

  abbrev d_is : c.digits-d.result ≡ digits_of w
  d_is = c.digits-d.ensures

  zeros : count_leading_zeros 64 m / 4 + digits m ≡ 16
  zeros = leading_digits 16 m (omega arith)

  -- the two shifts of the code
  shifted : m * 2 ^ (4 * (count_leading_zeros 64 m / 4)) % 2 ^ 64 / 2 ^ (4 * (16 - c.digits-d.result)) ≡ first_digits (digits_of w) m
  shifted = moved_right (digits_of w) c.digits-d.result m (count_leading_zeros 64 m / 4) d_is zeros

pub returns : goal.returns
returns c = λ a b some r.
    let l = (goal.at.returns c).After-digits-d in
    let up : l.args.up + digits (m l) ≡ l.args.up + 16 - count_leading_zeros 64 (m l) / 4 = omega (arith, zeros l) in
    c.limited.ensures a b some (same_place up (sym (shifted l)) r)
