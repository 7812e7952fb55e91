-- Alignment of two numbers, as a sum and a long compare begin (8.9; 8.11, note): the fraction of the smaller characteristic is moved right. It is said
-- over the guard digits g, so that of d digits d + g are kept.
use Rattle.std.specs.Prelude.{ℕ, suc, ◌+◌, ◌-◌, ◌*◌, ◌/◌, ◌^◌, ◌≤◌, ◌<◌, cond, ltb}
use Rattle.hexfloat.specs.declared.word.Parts.{Parts}
use Rattle.hexfloat.specs.Word.{magnitude}

-- 8.9: the characteristics are compared, and the larger one is aligned to; the operands are not normalised before (8.11, note)
unfoldable pub common_characteristic : Parts → Parts → ℕ
common_characteristic x y = cond (ltb x.characteristic y.characteristic) y.characteristic x.characteristic

-- 8.9; 8.11, note: the fraction with g guard digits behind it, moved right by one digit for each that c is larger than its characteristic. What falls
-- past the last guard digit is dropped.
unfoldable pub aligned : ℕ → ℕ → Parts → ℕ
aligned g c p = p.fraction * 16 ^ g / 16 ^ (c - p.characteristic)

-- f ≤ v < f + 1, where v is the exact magnitude of a number of d digits in units of the last of d + g digits at characteristic c, multiplied out
pub record IsAligned (d g c : ℕ) (p : Parts) (f : ℕ) : Type 0 where
  pub least : f * 16 ^ (c + (14 - d)) ≤ magnitude d p * 16 ^ g
  pub most : magnitude d p * 16 ^ g < suc f * 16 ^ (c + (14 - d))
