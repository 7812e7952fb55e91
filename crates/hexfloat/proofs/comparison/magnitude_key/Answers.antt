-- `magnitude_key` meets its contract: it is the definition, with its test of zero, and the sum fits.
use mathlib.Core.Path.{◌≡◌, ap}
use Prim.Native.Nat.{ℕ, ◌+◌, ◌*◌, ◌<◌, ◌≤◌, ◌^◌}
use native.Mathlib.Nat.{lt_of_lt_of_le}
use native.Mathlib.Omega.{arith}
use borrow.Author.Tests.{eq-eqb, ne_eqb}
use Rattle.hexfloat.specs.declared.normal.Normal.{Normal}
use Rattle.hexfloat.specs.declared.word.Parts.{Parts}
use Rattle.hexfloat.specs.Operand.{Operand, magnitude_key, normalised}
use Rattle.hexfloat.proofs.Digits.{mono}
use Rattle.hexfloat.proofs.Normalised.{normal_most, place_most}
use Rattle.hexfloat.proofs.comparison.magnitude_key.Goals as goal

-- the key of a normalised operand is a u64
fits : {d : ℕ} {p : Parts} {n : Normal} → Operand d p → n ≡ normalised d p → (n.place ≤ 141) × (n.fraction < 2 ^ 56)
fits o e = rw e (place_most o, lt_of_lt_of_le (normal_most o) (mono {j = 14} o.most))

pub returns-then-p-eq0 : goal.returns-then-p-eq0
unfolding magnitude_key
returns-then-p-eq0 c = rw (eq-eqb _ _ c.if-p-eq0.true)

pub overflow_mul-result : goal.overflow_mul-result
overflow_mul-result c = omega (arith, fits c.requires c.normalise-n.ensures)

pub overflow_add-result : goal.overflow_add-result
overflow_add-result c = omega (arith, fits c.requires c.normalise-n.ensures)

pub returns : goal.returns
unfolding magnitude_key
returns c =
    rw (ne_eqb _ _ c.if-p-eq0.false) (ap (λ (n : Normal). n.place * 2 ^ 56 + n.fraction) c.normalise-n.ensures)
