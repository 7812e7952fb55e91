-- What the private functions of the crate hand each other: operands in range, their normalised form (8.3), two fractions aligned (8.9), and the places
-- of a ratio.
use Rattle.std.specs.Prelude.{◌≡◌, ℕ, ◌+◌, ◌-◌, ◌*◌, ◌/◌, ◌%◌, ◌^◌, ◌≤◌, ◌<◌, cond, ltb, eqb}
use Rattle.hexfloat.specs.declared.alignment.Prealigned.{Prealigned}
use Rattle.hexfloat.specs.declared.division.Turn.{Turn}
use Rattle.hexfloat.specs.declared.normal.Normal.{Normal}
use Rattle.hexfloat.specs.declared.word.Parts.{Parts}
use Rattle.hexfloat.specs.declared.word.Width.{Width}
use Rattle.hexfloat.specs.Align.{common_characteristic, aligned}
use Rattle.hexfloat.specs.Normal.{digits, IsCharacteristic, IsFraction}
use Rattle.hexfloat.specs.Word.{digits_of}

-- the parts of a word of d digits
pub record Operand (d : ℕ) (p : Parts) : Type 0 where
  pub some : 1 < d
  pub most : d ≤ 14
  pub sign : p.sign ≤ 1
  pub characteristic : p.characteristic ≤ 127
  pub fraction : p.fraction < 16 ^ d

-- those of two words
pub record Operands (d : ℕ) (x y : Parts) : Type 0 where
  pub first : Operand d x
  pub second : Operand d y

-- 8.3: a fraction of d digits moved left by its leading zero digits, and the characteristic lowered by as many. The characteristic stands 14 higher,
-- so that it is never below 0.
unfoldable pub normalised : ℕ → Parts → Normal
normalised d p = record { place = p.characteristic + 14 + digits p.fraction - d; fraction = p.fraction * 16 ^ (d - digits p.fraction) }

-- a number that ranks as the magnitude of d digits does: the place of the first digit above the normalised fraction
unfoldable pub magnitude_key : ℕ → Parts → ℕ
magnitude_key d p = cond (eqb p.fraction 0) 0 ((normalised d p).place * 2 ^ 56 + (normalised d p).fraction)

-- two numbers whose fractions, with g guard digits behind them, have at most 16 digits
pub record Alignable (g : ℕ) (x y : Parts) : Type 0 where
  pub guards : g ≤ 2
  pub first : x.fraction < 16 ^ 14
  pub second : y.fraction < 16 ^ 14

-- both fractions, aligned to the common characteristic
unfoldable pub prealigned : ℕ → Parts → Parts → Prealigned
prealigned g x y =
    let c = common_characteristic x y in
    record { characteristic = c; first = aligned g c x; second = aligned g c y }

-- a / b has the characteristic up - down, also one below 0, and the fraction f of d digits: so a * 16^down over b has the characteristic up
pub record IsPlaced (d a b up down f : ℕ) : Type 0 where
  pub characteristic : IsCharacteristic (a * 16 ^ down) b up
  pub fraction : IsFraction d (a * 16 ^ down) b up f

-- the first d digits of a number of at most 16: it is moved left by its leading zero digits, and cut
abbrev pub first_digits : ℕ → ℕ → ℕ
first_digits d m = m * 16 ^ (16 - digits m) / 16 ^ (16 - d)

-- two normalised fractions, and how many digits of their quotient are wanted: all that a number has, or one less
pub record Dividends (w : Width) (n a b : ℕ) : Type 0 where
  pub few : n ≤ digits_of w
  pub many : digits_of w ≤ n + 1
  pub dividend : a < 16 ^ digits_of w
  pub divisor : b < 16 ^ digits_of w
  pub normal : 16 ^ digits_of w ≤ b * 16

-- of two normalised fractions: 1 where their quotient has a digit before the point, else 0
abbrev pub lead_of : ℕ → ℕ → ℕ
lead_of a b = cond (ltb a b) 0 1

-- x over b: what goes into the quotient, and what is left
abbrev pub turn_of : ℕ → ℕ → Turn
turn_of x b = record { taken = x / b; rest = x % b }

-- k digits of a quotient by a normalised long fraction
pub record Turning (k rest b : ℕ) : Type 0 where
  pub some : 2 < k
  pub few : k ≤ 7
  pub divisor : b < 16 ^ 14
  pub normal : 16 ^ 13 ≤ b
  pub dividend : rest < 16 ^ 14

-- an estimate that is right or one too small
pub record Correcting (q rest b : ℕ) : Type 0 where
  pub fits : q < 16 ^ 8
  pub near : rest < 2 * b

-- two operands of d digits that are not zero
pub record Factors (d : ℕ) (x y : Parts) : Type 0 where
  pub first : Operand d x
  pub second : Operand d y
  pub some_first : x.fraction ≡ 0 → ⊥
  pub some_second : y.fraction ≡ 0 → ⊥
