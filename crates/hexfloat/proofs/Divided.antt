-- What the code of a divide has at hand, and what follows of the quotient.
use mathlib.Core.Path.{◌≡◌, refl, ap₂}
use mathlib.Core.Bool.{Bool}
use mathlib.Core.Logic.{◌⊎◌, inl, inr, ⊎_elim}
use Prim.Native.Nat.{ℕ, ◌+◌, ◌-◌, ◌*◌, ◌/◌, ◌^◌, ◌≤◌, ◌<◌}
use native.Mathlib.Omega.{arith}
use borrow.Author.Tests.{lt-ltb, le-ltb}
use Rattle.hexfloat.specs.declared.normal.Normal.{Normal}
use Rattle.hexfloat.specs.declared.word.Parts.{Parts}
use Rattle.hexfloat.specs.declared.word.Width.{Width}
use Rattle.hexfloat.specs.declared.word.Words.{Words}
use Rattle.hexfloat.specs.Answer.{mapped}
use Rattle.hexfloat.specs.Word.{digits_of, parts_of, words_of, magnitude}
use Rattle.hexfloat.specs.Divide.{quotient, quotient_words}
use Rattle.hexfloat.specs.Operand.{Operand, IsPlaced, normalised, lead_of}
use Rattle.hexfloat.proofs.Digits.{pos}
use Rattle.hexfloat.proofs.Normalised.{Bounds, bounds}
use Rattle.hexfloat.proofs.Placed.{placed}
use Rattle.hexfloat.proofs.Trichotomy.{below_or_not}

-- a lead is 0 or 1, as the fractions stand to each other
lead_cases : (a b : ℕ) → ((lead_of a b ≡ 0) × (a < b)) ⊎ ((lead_of a b ≡ 1) × (b ≤ a))
lead_cases a b = ⊎_elim (λ h. inl (rw (lt-ltb a b h) (refl, h))) (λ h. inr (rw (le-ltb a b h) (refl, h))) (below_or_not a b)

lead_most : (a b : ℕ) → lead_of a b ≤ 1
lead_most a b = ⊎_elim (λ l. rw l.0 (omega arith)) (λ l. rw l.0 (omega arith)) (lead_cases a b)

-- it brings the quotient of two normalised fractions between 1/16 and 1
lead_bounds : (m a b : ℕ) → a < m → b < m → m ≤ a * 16 → m ≤ b * 16 → (b * 16 ^ lead_of a b ≤ a * 16) × (a < b * 16 ^ lead_of a b)
lead_bounds m a b ha hb la lb = ⊎_elim (λ l. rw l.0 (omega arith)) (λ l. rw l.0 (omega arith)) (lead_cases a b)

-- two operands that are not zero, their normalised forms and the lead of their quotient
pub record Ready (d : ℕ) (x y : Parts) (n m : Normal) (lead : ℕ) : Type 0 where
  pub dividend : Operand d x
  pub divisor : Operand d y
  pub some_dividend : x.fraction ≡ 0 → ⊥
  pub some_divisor : y.fraction ≡ 0 → ⊥
  pub normal_dividend : n ≡ normalised d x
  pub normal_divisor : m ≡ normalised d y
  pub leads : lead ≡ lead_of n.fraction m.fraction

module _ {d : ℕ} {x y : Parts} {n m : Normal} {lead : ℕ} (r : Ready d x y n m lead) where
  pub dividend_bounds : Bounds d x n
  dividend_bounds = bounds r.dividend r.some_dividend r.normal_dividend

  pub divisor_bounds : Bounds d y m
  divisor_bounds = bounds r.divisor r.some_divisor r.normal_divisor

  near : (m.fraction * 16 ^ lead ≤ n.fraction * 16) × (n.fraction < m.fraction * 16 ^ lead)
  near = rw r.leads (lead_bounds (16 ^ d) n.fraction m.fraction dividend_bounds.most divisor_bounds.most dividend_bounds.least divisor_bounds.least)

  pub lead_few : lead ≤ 1
  lead_few = rw r.leads (lead_most n.fraction m.fraction)

  pub ratio_placed : IsPlaced d (magnitude d x) (magnitude d y) (n.place + 64 + lead) m.place (n.fraction * 16 ^ (d - lead) / m.fraction)
  ratio_placed =
      placed d (magnitude d x) (magnitude d y) n.fraction n.place m.fraction m.place lead dividend_bounds.exact divisor_bounds.exact near.0 near.1
      (omega (arith, lead_few, r.dividend.some)) (omega (arith, divisor_bounds.least, pos d))

-- the same quotient in words, where the operands' parts are known
pub in_words : (w : Width) (mask : Bool) (a b : Words) {x y : Parts} → x ≡ parts_of w a → y ≡ parts_of w b
    → mapped (words_of w) (quotient (digits_of w) mask x y) ≡ quotient_words w mask a b
unfolding quotient_words
in_words w mask a b ex ey = ap₂ (λ (x y : Parts). mapped (words_of w) (quotient (digits_of w) mask x y)) ex ey
