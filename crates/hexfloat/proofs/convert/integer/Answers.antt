-- `integer` meets its contract: by the characteristic the fraction moves left, right, or out of sight.
use mathlib.Core.Path.{sym, ap, ◌∙◌}
use Prim.Native.Nat.{ℕ, ◌/◌, ◌*◌, ◌^◌, ◌<◌, ◌-◌}
use native.Mathlib.Nat.{lt_of_lt_of_le, le_trans, le_of_eq, mul-lt-mul_of_pos_right}
use native.Mathlib.Omega.{arith}
use lib.Pow.{pow-add}
use Rattle.hexfloat.proofs.Digits.{pos, mono, four_bits, moved_left}
use Rattle.hexfloat.proofs.Converted as converted
use Rattle.hexfloat.proofs.convert.integer.Goals as goal

pub returns-then-c-ge66 : goal.returns-then-c-ge66
returns-then-c-ge66 c =
    let p = c.args.p in
    let k : ℕ = p.characteristic - 66 in
    let fits : p.fraction * 16 ^ k < 2 ^ 64 =
    lt_of_lt_of_le (mul-lt-mul_of_pos_right c.requires.operand.fraction (pos k)) (le_trans (le_of_eq (sym (pow-add 16 6 k))) (mono {j = 16} (omega arith))) in
    moved_left p.fraction k fits ∙ sym (converted.fixed_left p c.if-c-ge66.true)

pub returns-then-c-gt60 : goal.returns-then-c-gt60
returns-then-c-gt60 c =
    let p = c.args.p in
    ap (λ (z : ℕ). p.fraction / z) (four_bits (66 - p.characteristic)) ∙ sym (converted.fixed_right p (omega arith))

pub returns-else-c-gt60 : goal.returns-else-c-gt60
returns-else-c-gt60 c = sym (converted.fixed_out c.args.p (omega arith) c.requires.operand.fraction)
