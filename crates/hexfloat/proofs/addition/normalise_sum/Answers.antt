-- `normalise_sum` meets its contract: the intermediate sum is a whole number whose first digits are kept.
use mathlib.Core.Path.{◌≡◌, sym, ap, ◌∙◌, subst⁻¹}
use Prim.Native.Nat.{ℕ, ◌+◌, ◌*◌, ◌^◌}
use native.Mathlib.Nat.{pos_of_ne-zero, zero-mul}
use native.Mathlib.Omega.{arith}
use Rattle.hexfloat.specs.declared.word.Width.{Width}
use Rattle.hexfloat.specs.Add.{result_of_sum}
use Rattle.hexfloat.specs.Answer.{gives, mapped}
use Rattle.hexfloat.specs.Normal.{digits}
use Rattle.hexfloat.specs.Operand.{IsPlaced, first_digits}
use Rattle.hexfloat.specs.Word.{digits_of, words_of}
use Rattle.hexfloat.proofs.Digits.{pos, digits_le}
use Rattle.hexfloat.proofs.Fits.{width_fits, no_bits}
use Rattle.hexfloat.proofs.Results.{of_zero}
use Rattle.hexfloat.proofs.Wholes.{first_digits-placed}
use Rattle.hexfloat.proofs.addition.normalise_sum.Goals as goal
use Rattle.hexfloat.proofs.addition.normalise_sum.Goals.{After-digits-d}

pub returns-then-m-eq0 : goal.returns-then-m-eq0
unfolding result_of_sum
returns-then-m-eq0 c =
    let a = c.args in
    ap gives (sym (no_bits a.width))
    ∙ ap (mapped (words_of a.width))
    (sym (of_zero _ _ _ (a.s.magnitude * 16 ^ a.c) _ (ap (λ (x : ℕ). x * 16 ^ a.c) c.if-m-eq0.true ∙ zero-mul (16 ^ a.c))))

module _ (c : After-digits-d) where
  abbrev w : Width
  w = c.args.width

  abbrev m : ℕ
  m = c.args.s.magnitude

  abbrev d_is : c.digits-d.result ≡ digits_of w
  d_is = c.digits-d.ensures

-- where the intermediate sum stands
placed : (c : After-digits-d) → IsPlaced (digits_of (w c)) (m c * 16 ^ c.args.c) (16 ^ (65 + digits_of (w c))) (c.args.c + digits (m c)) (c.digits-d.result + 1) (first_digits (digits_of (w c)) (m c))
placed c =
    let d : ℕ = digits_of (w c) in
    let k : ℕ = c.args.c in
    subst⁻¹ (λ (x : ℕ). IsPlaced d (m c * 16 ^ k) (16 ^ (65 + d)) (k + digits (m c)) (x + 1) (first_digits d (m c))) (d_is c)
    (first_digits-placed d (m c) k (65 + d) (k + digits (m c)) (d + 1) (pos_of_ne-zero c.if-m-eq0.false) (digits_le (m c) 16 c.requires.2) (omega (arith, width_fits (w c))) (omega arith))

pub returns : goal.returns
unfolding result_of_sum
returns c =
    let l = (goal.at.returns c).After-digits-d in
    c.normalised_result.ensures (m l * 16 ^ l.args.c) (16 ^ (65 + digits_of (w l))) (pos (65 + digits_of (w l))) (placed l)
