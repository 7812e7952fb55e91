-- `float_parts` meets its contract: the leading zero bits over four are the leading zero digits of eight.
use mathlib.Core.Path.{◌≡◌, sym, ap, ◌∙◌}
use Prim.Native.Nat.{ℕ, ◌+◌, ◌-◌, ◌*◌, ◌/◌, ◌%◌, ◌^◌, ◌<◌}
use native.Mathlib.Nat.{pos_of_ne-zero}
use native.Mathlib.Omega.{arith}
use borrow.Author.Tests.{eq-eqb, ne_eqb}
use lib.Count.{count_leading_zeros}
use Rattle.hexfloat.specs.Normal.{digits, characteristic_of, fraction_of}
use Rattle.hexfloat.specs.Convert.{word_magnitude, float_parts}
use Rattle.hexfloat.proofs.Converted.{characteristic, fraction}
use Rattle.hexfloat.proofs.Digits.{leading_digits, moved_left}
use Rattle.hexfloat.proofs.Normalised.{moved_most}
use Rattle.hexfloat.proofs.convert.float_parts.Goals as goal
use Rattle.hexfloat.proofs.convert.float_parts.Goals.{After-magnitude-m}

place_is : (z m : ℕ) → z + digits m ≡ 8 → 68 - z ≡ 60 + digits m
place_is z m e = omega arith

zeros : (c : After-magnitude-m) → count_leading_zeros 32 c.magnitude-m.result / 4 + digits c.magnitude-m.result ≡ 8
zeros c = leading_digits 8 c.magnitude-m.result c.magnitude-m.type_inv

pub returns-then-m-eq0 : goal.returns-then-m-eq0
unfolding float_parts
returns-then-m-eq0 c = rw (eq-eqb (word_magnitude c.args.w) 0 (sym c.magnitude-m.ensures ∙ c.if-m-eq0.true))

pub returns : goal.returns
unfolding float_parts
returns c =
    let w = c.args.w in
    let m = c.magnitude-m.result in
    let e = c.magnitude-m.ensures in
    let z : ℕ = count_leading_zeros 32 m / 4 in
    let some : 0 < m = pos_of_ne-zero c.if-m-eq0.false in
    let moved : z ≡ 8 - digits m = omega (arith, zeros (goal.at.returns c).After-magnitude-m) in
    let fits : m * 16 ^ z < 2 ^ 32 = rw moved (moved_most 8 m (omega (arith, zeros (goal.at.returns c).After-magnitude-m))) in
    let place : 68 - z ≡ characteristic_of (word_magnitude w) 65536 =
    place_is z m (zeros (goal.at.returns c).After-magnitude-m) ∙ sym (characteristic m some) ∙ ap (λ (x : ℕ). characteristic_of x 65536) e in
    let six : m * 2 ^ (4 * z) % 2 ^ 32 / 256 ≡ fraction_of 6 (word_magnitude w) 65536 =
    ap (λ (x : ℕ). x / 256) (moved_left m z fits) ∙ sym (fraction m some z (zeros (goal.at.returns c).After-magnitude-m)) ∙ ap (λ (x : ℕ). fraction_of 6 x 65536) e in
    rw (ne_eqb (word_magnitude w) 0 (λ n. c.if-m-eq0.false (e ∙ n))) (λ i. record { sign = w / 2 ^ 31; characteristic = place i; fraction = six i })
