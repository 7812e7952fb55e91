-- Laws of sums: what the code of an addition has at hand, and what follows of the intermediate sum and its result.
use mathlib.Core.Path.{◌≡◌}
use mathlib.Core.Logic.{⊎_elim}
use Prim.Native.Nat.{ℕ, ◌^◌, ◌≤◌, ◌<◌}
use native.Mathlib.Nat.{eq-zero-or-pos}
use native.Mathlib.Omega.{arith}
use borrow.Author.Tests.{eq-eqb, ne_eqb}
use Rattle.hexfloat.specs.declared.word.Parts.{Parts}
use Rattle.hexfloat.specs.Add.{input, intermediate_sum}
use Rattle.hexfloat.specs.Align.{common_characteristic, aligned}
use Rattle.hexfloat.specs.Operand.{Operand, Operands}
use Rattle.hexfloat.specs.Word.{true_zero}
use Rattle.hexfloat.proofs.Digits.{pos}
use Rattle.hexfloat.proofs.Signs.{signed_sign, sum_most}

-- an input is true zero or the operand itself
pub input-zero : (p : Parts) → p.fraction ≡ 0 → input p ≡ true_zero
unfolding input
input-zero p e = rw (eq-eqb p.fraction 0 e)

pub input_some : (p : Parts) → (p.fraction ≡ 0 → ⊥) → input p ≡ p
unfolding input
input_some p ne = rw (ne_eqb p.fraction 0 ne)

-- so it is in range where the operand is
input_fits : {d : ℕ} {p : Parts} → Operand d p → Operand d (input p)
input_fits {d} {p} o = ⊎_elim none some (eq-zero-or-pos p.fraction)
  where
    none : p.fraction ≡ 0 → Operand d (input p)
    none e = rw (input-zero p e) (record { some = o.some; most = o.most; sign = omega arith; characteristic = omega arith; fraction = pos d })

    some : 0 < p.fraction → Operand d (input p)
    some h = rw (input_some p (λ e. omega arith)) o

pub inputs_fit : {d : ℕ} {x y : Parts} → Operands d x y → Operands d (input x) (input y)
inputs_fit o = record { first = input_fits o.first; second = input_fits o.second }

-- the intermediate sum of 15 digits each: its sign, and a magnitude of at most 16
pub sum_fits : (x y : Parts) → aligned 1 (common_characteristic x y) x < 16 ^ 15 → aligned 1 (common_characteristic x y) y < 16 ^ 15
    → ((intermediate_sum x y).sign ≤ 1) × ((intermediate_sum x y).magnitude < 16 ^ 16)
unfolding intermediate_sum
sum_fits x y hx hy =
    (signed_sign _ _, omega (arith, sum_most x.sign (aligned 1 (common_characteristic x y) x) y.sign (aligned 1 (common_characteristic x y) y)))
