-- Hexadecimal digits, and an exact ratio as a normalised number of d digits (8.3; document 01, 'Divide').
use Rattle.std.specs.Prelude.{ℕ, zero, suc, ◌+◌, ◌*◌, ◌/◌, ◌^◌, ◌≤◌, ◌<◌}

-- how many hexadecimal digits n has; the first argument bounds how many are looked for
unfoldable pub digits_in : ℕ → ℕ → ℕ
digits_in zero n = zero
digits_in (suc k) zero = zero
digits_in (suc k) (suc n) = suc (digits_in k (suc n / 16))

unfoldable pub digits : ℕ → ℕ
digits n = digits_in n n

-- With q = a / b the exact ratio and e the whole number with 16^(e-1) ≤ q < 16^e:
-- the characteristic e + 64, which is how many digits q * 16^64 has before its point (0 also where e + 64 is below 0) ..
unfoldable pub characteristic_of : ℕ → ℕ → ℕ
characteristic_of a b = digits (a * 16 ^ 64 / b)

-- .. and the fraction q * 16^(d - e), cut toward zero, multiplied out
unfoldable pub fraction_of : ℕ → ℕ → ℕ → ℕ
fraction_of d a b = a * 16 ^ (64 + d) / (16 ^ characteristic_of a b * b)

-- 16^(e-1) ≤ q < 16^e with e + 64 = c, multiplied out
pub record IsCharacteristic (a b c : ℕ) : Type 0 where
  pub least : 16 ^ c * b ≤ a * 16 ^ 65
  pub most : a * 16 ^ 64 < 16 ^ c * b

-- the same with e + 64 = - k, for a characteristic below 0
pub record IsBelowZero (a b k : ℕ) : Type 0 where
  pub least : b ≤ a * 16 ^ (65 + k)
  pub most : a * 16 ^ (64 + k) < b

-- f ≤ q * 16^(d - e) < f + 1 with e + 64 = c, multiplied out
pub record IsFraction (d a b c f : ℕ) : Type 0 where
  pub least : f * (16 ^ c * b) ≤ a * 16 ^ (64 + d)
  pub most : a * 16 ^ (64 + d) < suc f * (16 ^ c * b)
