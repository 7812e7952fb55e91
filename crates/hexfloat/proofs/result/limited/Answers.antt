-- `limited` meets its contract: each way out of the code has its law, for every ratio that has the places.
use mathlib.Core.Path.{◌≡◌, sym, ap, ◌∙◌}
use mathlib.Core.Bool.{Bool}
use Prim.Native.Nat.{ℕ, ◌<◌}
use Rattle.hexfloat.specs.Answer.{gives, mapped}
use Rattle.hexfloat.specs.Operand.{IsPlaced}
use Rattle.hexfloat.specs.Result.{result_of, underflow}
use Rattle.hexfloat.specs.Word.{digits_of, words_of}
use Rattle.hexfloat.proofs.Fits.{no_bits}
use Rattle.hexfloat.proofs.Placed.{below_limits, above_limits, within_limits}
use Rattle.hexfloat.proofs.result.limited.Goals as goal
use Rattle.hexfloat.proofs.result.limited.Goals.{Then-up-down}

-- below the limits, by the mask
underflowed : (c : Then-up-down) (m : Bool) → c.args.mask ≡ m → (a b : ℕ) → 0 < b
    → IsPlaced (digits_of c.args.width) a b c.args.up c.args.down c.args.fraction
    → mapped (words_of c.args.width) (underflow m) ≡ mapped (words_of c.args.width) (result_of (digits_of c.args.width) c.args.mask c.args.sign a b)
underflowed c m e a b some r =
    ap (λ (x : Bool). mapped (words_of c.args.width) (underflow x)) (sym e)
    ∙ ap (mapped (words_of c.args.width)) (sym (below_limits _ _ _ a b _ _ _ some r c.if-up-down.true))

pub returns-then-mask : goal.returns-then-mask
returns-then-mask c = underflowed (goal.at.returns-then-mask c).Then-up-down _ c.if-mask.true

pub returns-else-mask : goal.returns-else-mask
returns-else-mask c = λ a b some r. ap gives (sym (no_bits c.args.width)) ∙ underflowed (goal.at.returns-else-mask c).Then-up-down _ c.if-mask.false a b some r

pub returns-then-characteristic-gt127 : goal.returns-then-characteristic-gt127
returns-then-characteristic-gt127 c = λ a b some r. ap (mapped (words_of c.args.width)) (sym (above_limits _ _ _ a b _ _ _ some r c.if-up-down.false c.if-characteristic-gt127.true))

pub returns : goal.returns
returns c = λ a b some r. ap gives c.words.ensures ∙ ap (mapped (words_of c.args.width)) (sym (within_limits _ _ _ a b _ _ _ some r c.if-up-down.false c.if-characteristic-gt127.false))
