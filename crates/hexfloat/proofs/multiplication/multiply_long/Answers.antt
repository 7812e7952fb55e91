-- `multiply_long` meets its contract: the first part of the product of the normalised fractions has all digits that are kept.
use mathlib.Core.Path.{ap, ◌∙◌}
use Prim.Native.Nat.{ℕ, ◌+◌, ◌*◌, ◌^◌, ◌≤◌}
use native.Mathlib.Omega.{arith}
use Rattle.hexfloat.specs.declared.normal.Normal.{Normal}
use Rattle.hexfloat.specs.declared.word.Parts.{Parts}
use Rattle.hexfloat.specs.declared.word.Width.{Width}
use Rattle.hexfloat.specs.Answer.{mapped}
use Rattle.hexfloat.specs.Normal.{digits}
use Rattle.hexfloat.specs.Operand.{IsPlaced, first_digits}
use Rattle.hexfloat.specs.Word.{digits_of, words_of}
use Rattle.hexfloat.proofs.Digits.{pos, digits_le}
use Rattle.hexfloat.proofs.Fits.{width_fits}
use Rattle.hexfloat.proofs.Multiplied.{first_bounds, second_bounds, normal_product, first_part_normal, product_placed, result_kept}
use Rattle.hexfloat.proofs.Normalised.{Bounds}
use Rattle.hexfloat.proofs.multiplication.multiply_long.Goals as goal
use Rattle.hexfloat.proofs.multiplication.multiply_long.Goals.{After-multiply_fractions-p, After-normalise-n, Start}

-- with the normalised forms of both operands
module _ (c : After-normalise-n) where
  abbrev start : Start
  start = c.before.before.before.before

  abbrev width : Width
  width = start.args.width

  abbrev x : Parts
  x = start.args.x

  abbrev y : Parts
  y = start.args.y

  abbrev n : Normal
  n = c.normalise-n.result

  abbrev m : Normal
  m = c.normalise-m.result

  first : Bounds 14 x n
  first = first_bounds start.requires c.normalise-n.ensures c.normalise-m.ensures

  second : Bounds 14 y m
  second = second_bounds start.requires c.normalise-n.ensures c.normalise-m.ensures

  normal : 16 ^ 26 ≤ n.fraction * m.fraction
  normal = normal_product start.requires c.normalise-n.ensures c.normalise-m.ensures

pub overflow_add-place : goal.overflow_add-place
overflow_add-place c = omega (arith, (first (goal.at.overflow_add-place c).After-normalise-n).place, (second (goal.at.overflow_add-place c).After-normalise-n).place)

pub multiply_fractions-p-requires : goal.multiply_fractions-p-requires
multiply_fractions-p-requires c = ((first (goal.at.multiply_fractions-p-requires c).After-normalise-n).most, (second (goal.at.multiply_fractions-p-requires c).After-normalise-n).most)

-- and with the product of their fractions
module _ (c : After-multiply_fractions-p) where
  abbrev u : After-normalise-n
  u = c.before.before.before

  abbrev high : ℕ
  high = c.multiply_fractions-p.result.high

  some : 16 ^ 14 ≤ high
  some = first_part_normal ((n u).fraction * (m u).fraction) _ _ c.multiply_fractions-p.ensures.0 c.multiply_fractions-p.ensures.1 (normal u)

  placed : IsPlaced (digits_of (width u)) ((n u).fraction * (m u).fraction * 16 ^ ((n u).place + (m u).place)) (16 ^ 184) ((n u).place + (m u).place + digits high) 108 (first_digits (digits_of (width u)) high)
  placed =
      product_placed ((n u).fraction * (m u).fraction) _ _ c.multiply_fractions-p.ensures.0 c.multiply_fractions-p.ensures.1 (normal u)
      (digits_of (width u)) (width_fits (width u)).1 (digits_le high 16 (omega arith)) ((n u).place + (m u).place)

pub normalised_result-requires : goal.normalised_result-requires
normalised_result-requires c = record { sign_bound = omega arith; m_nonzero = omega (arith, some c); up_bound = omega (arith, (first (u c)).place, (second (u c)).place) }

pub returns : goal.returns
returns c =
    let s = u (goal.at.returns c).After-multiply_fractions-p in
    c.normalised_result.ensures ((n s).fraction * (m s).fraction * 16 ^ ((n s).place + (m s).place)) (16 ^ 184) (pos 184) (placed (goal.at.returns c).After-multiply_fractions-p)
    ∙ ap (mapped (words_of (width s))) (result_kept (start s).requires s.normalise-n.ensures s.normalise-m.ensures (digits_of (width s)) (start s).args.mask)
