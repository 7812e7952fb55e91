-- `unset::bits::general_bit` meets its contract: the bit of its rank.
-- Assumes nothing.
use mathlib.Core.Path.{◌≡◌, sym, ap, ◌∙◌}
use Prim.Native.Nat.{ℕ, ◌+◌, ◌*◌, ◌^◌}
use native.Mathlib.Omega.{arith}
use lib.Bits.{or_zero_r}
use Rattle.machine.specs.Uses.{general}
use Rattle.unset.specs.Answer.{rank}
use Rattle.unset.specs.Bits.{bits_of}
use Rattle.unset.proofs.bits.general_bit.Goals as goal

pub returns : goal.returns
unfolding bits_of
returns c =
    let s = c.args.s in
    let r = c.args.r in
    let e : 8 + s * 8 + r ≡ rank (general s r) = omega arith in
    c.single.ensures ∙ ap (λ (k : ℕ). 2 ^ k) e ∙ sym (or_zero_r _)
