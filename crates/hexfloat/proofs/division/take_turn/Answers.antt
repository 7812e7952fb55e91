-- `take_turn` meets its contract: the shifts lose nothing, and the estimate with what it leaves is the whole.
use mathlib.Core.Path.{◌≡◌, refl, ap, ◌∙◌}
use Prim.Native.Nat.{ℕ, ◌+◌, ◌-◌, ◌*◌, ◌/◌, ◌%◌, ◌^◌}
use native.Mathlib.Nat.{lt_of_le_of_lt, mod-eq_of_lt, div-mul-le_self}
use native.Mathlib.Omega.{arith}
use Rattle.hexfloat.specs.Operand.{Turning, turn_of}
use Rattle.hexfloat.proofs.Digits.{four_bits}
use Rattle.hexfloat.proofs.Turns.{under, enough, up, kept, estimate_few, remaining_near, shifted_fits}
use Rattle.hexfloat.proofs.division.take_turn.Goals as goal
use Rattle.hexfloat.proofs.division.take_turn.Goals.{Start}

module _ (c : Start) where
  abbrev k : ℕ
  k = c.args.k

  abbrev rest : ℕ
  rest = c.args.rest

  abbrev b : ℕ
  b = c.args.b

  abbrev e : ℕ
  e = rest * 256 / (b / 16 ^ (k - 2) + 1)

  t : Turning k rest b
  t = c.requires

  dividend_whole : rest * 256 % 18446744073709551616 ≡ rest * 256
  dividend_whole = mod-eq_of_lt (omega (arith, c.requires.dividend))

  divisor_whole : b / 16 ^ k * 16 ^ k % 18446744073709551616 ≡ b / 16 ^ k * 16 ^ k
  divisor_whole = mod-eq_of_lt (lt_of_le_of_lt (div-mul-le_self b (16 ^ k)) (omega (arith, c.requires.divisor)))

  high_whole : up k rest b e t refl * 16 ^ k % 18446744073709551616 ≡ up k rest b e t refl * 16 ^ k
  high_whole = mod-eq_of_lt (shifted_fits k rest b e t refl)

pub overflow_mul-high : goal.overflow_mul-high
overflow_mul-high c = rw (four_bits (k c - 2), four_bits (k c), dividend_whole c) (record { fits = lt_of_le_of_lt (under (k c) (rest c) (b c) (e c) (t c) refl) (omega (arith, (t c).dividend)) })

pub overflow_sub-high : goal.overflow_sub-high
overflow_sub-high c = rw (four_bits (k c - 2), four_bits (k c), dividend_whole c) (under (k c) (rest c) (b c) (e c) (t c) refl)

pub overflow_mul-e-2 : goal.overflow_mul-e-2
overflow_mul-e-2 c = rw (four_bits (k c - 2), four_bits (k c), dividend_whole c, divisor_whole c) (record { fits = lt_of_le_of_lt (enough (k c) (rest c) (b c) (e c) (t c) refl) (shifted_fits (k c) (rest c) (b c) (e c) (t c) refl) })

pub overflow_sub-high-2 : goal.overflow_sub-high-2
overflow_sub-high-2 c = rw (four_bits (k c - 2), four_bits (k c), dividend_whole c, divisor_whole c, high_whole c) (enough (k c) (rest c) (b c) (e c) (t c) refl)

pub correct-requires : goal.correct-requires
correct-requires c =
    rw (four_bits (k c - 2), four_bits (k c), dividend_whole c, divisor_whole c, high_whole c)
    (record { fits = estimate_few (k c) (rest c) (b c) (e c) (t c) refl; near = remaining_near (k c) (rest c) (b c) (e c) (t c) refl })

pub returns : goal.returns
returns c =
    c.correct.ensures
    ∙ rw (four_bits (k c.before - 2), four_bits (k c.before), dividend_whole c.before, divisor_whole c.before, high_whole c.before)
    (ap (λ (x : ℕ). turn_of x (b c.before)) (kept (k c.before) (rest c.before) (b c.before) (e c.before) (t c.before) refl))
