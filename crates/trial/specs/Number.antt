-- Numbers by their digits.
use Rattle.std.specs.Prelude.{ℕ, ◌+◌, ◌-◌, ◌*◌, ◌%◌, ◌^◌, cond, Option, Some, None, Result, Ok, Err, List, [], ◌∷◌, ◌++◌, length, take, drop, ltb}
use Rattle.trial.specs.declared.case.Ended.{Ended}
use Rattle.trial.specs.declared.case.Ended.TheVariants.{Malformed}

-- d, where the base has such a digit
abbrev pub below : ℕ → ℕ → Option ℕ
below base d = cond (ltb d base) (Some d) None

-- 0-9 count as 0 to 9 and A-F as 10 to 15, as far as the base has them; no other byte is a digit
abbrev pub digit_of : ℕ → ℕ → Option ℕ
digit_of base b = cond (ltb b 48) None (cond (ltb b 58) (below base (b - 48)) (cond (ltb b 65) None (cond (ltb b 71) (below base (b - 55)) None)))

abbrev pub if_digit : Option ℕ → (ℕ → Result ℕ Ended) → Result ℕ Ended
if_digit None f = Err Malformed
if_digit (Some d) f = f d

-- what n becomes by digits after it, cut to 32 bits
unfoldable pub number_after : ℕ → ℕ → List ℕ → Result ℕ Ended
number_after base n [] = Ok n
number_after base n (b ∷ bs) = if_digit (digit_of base b) (λ d. number_after base ((n * base + d) % 2 ^ 32) bs)

abbrev pub number_of : ℕ → List ℕ → Result ℕ Ended
number_of base bs = number_after base 0 bs

abbrev pub if_number : Result ℕ Ended → (ℕ → Result (List ℕ) Ended) → Result (List ℕ) Ended
if_number (Ok n) f = f n
if_number (Err e) f = Err e

-- these numbers, and after them those that stand in a text, each in so many digits and with one byte after it, which is any
unfoldable pub numbers_after : ℕ → List ℕ → List ℕ → List ℕ → Result (List ℕ) Ended
numbers_after base ns bs [] = Ok ns
numbers_after base ns bs (w ∷ ws) = cond (ltb (length bs) w) (Err Malformed) (if_number (number_of base (take w bs)) (λ n. numbers_after base (ns ++ n ∷ []) (drop (w + 1) bs) ws))

abbrev pub numbers_of : ℕ → List ℕ → List ℕ → Result (List ℕ) Ended
numbers_of base bs ws = numbers_after base [] bs ws
