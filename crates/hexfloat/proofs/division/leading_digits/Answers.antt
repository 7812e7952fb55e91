-- `leading_digits` meets its contract: the short dividend fits a u64, and the two turns of a long division are one.
use mathlib.Core.Path.{◌≡◌, ap, ◌∙◌}
use Prim.Native.Nat.{ℕ, ◌+◌, ◌*◌, ◌/◌, ◌%◌, ◌^◌, ◌<◌}
use native.Mathlib.Nat.{le_of_eq, lt_of_le_of_lt, lt_of_lt_of_le, le-add_right, mod-eq_of_lt}
use native.Mathlib.Omega.{arith}
use Rattle.hexfloat.specs.declared.word.Width.TheVariants.{Short, Long}
use Rattle.hexfloat.specs.Operand.{Dividends}
use Rattle.hexfloat.proofs.Digits.{mono, moved_left}
use Rattle.hexfloat.proofs.Turns.{shift_fits, seven_last, quotient_most}
use Rattle.hexfloat.proofs.division.leading_digits.Goals as goal
use Rattle.hexfloat.proofs.division.leading_digits.Goals.{After-struct_known-in-Long-1, In-Long, In-Short}

short : (c : In-Short) → Dividends Short c.args.n c.args.a c.args.b
short c = rw c.in-Short.is at c.requires

long : (c : In-Long) → Dividends Long c.args.n c.args.a c.args.b
long c = rw c.in-Long.is at c.requires

-- after both turns: their digits are the quotient, and fit a u64
module _ (c : After-struct_known-in-Long-1) where
  abbrev n : ℕ
  n = c.args.n

  abbrev a : ℕ
  a = c.args.a

  abbrev b : ℕ
  b = c.args.b

  abbrev first : ℕ
  first = c.take_turn-t.result.taken

  abbrev second : ℕ
  second = c.take_turn-u.result.taken

  dividends : Dividends Long n a b
  dividends = long c.before.before.before.before

  some : 0 < b
  some = omega (arith, dividends.normal)

  whole : first * 16 ^ 7 + second ≡ a * 16 ^ n / b
  whole = seven_last n a b _ _ (omega (arith, dividends.many)) some c.take_turn-t.ensures c.take_turn-u.ensures

  fits : first * 16 ^ 7 + second < 2 ^ 64
  fits =
      lt_of_le_of_lt (le_of_eq whole)
      (lt_of_lt_of_le (quotient_most n a b some (omega (arith, dividends.dividend, dividends.normal))) (mono {j = 16} (omega (arith, dividends.few))))

  moved : first * 2 ^ 28 % 2 ^ 64 ≡ first * 16 ^ 7
  moved = mod-eq_of_lt (lt_of_le_of_lt (le-add_right (first * 16 ^ 7) second) fits)

pub returns-in-Short : goal.returns-in-Short
returns-in-Short c =
    ap (λ (x : ℕ). x / c.args.b)
    (moved_left c.args.a c.args.n (shift_fits 6 _ _ (short c).dividend (omega (arith, (short c).few))))

pub returns-in-Long : goal.returns-in-Long
returns-in-Long c = ap (λ (x : ℕ). x + second c) (moved c) ∙ whole c
