-- `multiply` meets its contract: a word's parts are in range, and each way out of the code has its law.
use mathlib.Core.Path.{◌≡◌, refl, sym, ap, ◌∙◌, subst}
use mathlib.Core.Bool.{Bool}
use native.Mathlib.Omega.{arith}
use Rattle.hexfloat.specs.declared.word.Parts.{Parts}
use Rattle.hexfloat.specs.declared.word.Width.{Width}
use Rattle.hexfloat.specs.Answer.{gives, mapped}
use Rattle.hexfloat.specs.Multiply.{product, product_words}
use Rattle.hexfloat.specs.Operand.{Operands, Factors}
use Rattle.hexfloat.specs.Word.{digits_of, words_of, short_words, true_zero}
use Rattle.hexfloat.proofs.Fits.{held, no_bits}
use Rattle.hexfloat.proofs.Multiplied.{zero_first, zero_second, in_words}
use Rattle.hexfloat.proofs.multiplication.multiply.Goals as goal
use Rattle.hexfloat.proofs.multiplication.multiply.Goals.{After-parts-y, Else-y-eq0}

-- with the parts of both operands
module _ (c : After-parts-y) where
  abbrev v : Width
  v = c.args.operands

  abbrev w : Width
  w = c.args.width

  abbrev mask : Bool
  mask = c.args.mask

  abbrev x : Parts
  x = c.parts-x.result

  abbrev y : Parts
  y = c.parts-y.result

  fits : Operands (digits_of v) x y
  fits =
      let a = c.args in
      held v a.a a.b c.parts-x.ensures c.parts-y.ensures (record { high = omega arith; low = omega arith }) (record { high = omega arith; low = omega arith })

  -- the product in words, the operands' width being u
  said : {u : Width} → v ≡ u → mapped (words_of w) (product (digits_of u) (digits_of w) mask x y) ≡ product_words v w mask c.args.a c.args.b
  said e =
      subst (λ (z : Width). mapped (words_of w) (product (digits_of z) (digits_of w) mask x y) ≡ product_words v w mask c.args.a c.args.b) e
      (in_words v w mask c.args.a c.args.b c.parts-x.ensures c.parts-y.ensures)

  -- a zero fraction of either
  none : product (digits_of v) (digits_of w) mask x y ≡ gives true_zero → gives (short_words 0) ≡ product_words v w mask c.args.a c.args.b
  none e = ap gives (sym (no_bits w)) ∙ ap (mapped (words_of w)) (sym e) ∙ said refl

-- where neither is zero
module _ (c : Else-y-eq0) where
  abbrev parts : After-parts-y
  parts = c.before.before.before.before

  factors : {u : Width} → v parts ≡ u → Factors (digits_of u) (x parts) (y parts)
  factors e =
      subst (λ (z : Width). Factors (digits_of z) (x parts) (y parts)) e
      (record { first = (fits parts).first; second = (fits parts).second; some_first = c.if-x-eq0.false; some_second = c.if-y-eq0.false })

pub returns-then-x-eq0 : goal.returns-then-x-eq0
returns-then-x-eq0 c = none (goal.at.returns-then-x-eq0 c).After-parts-y (zero_first _ _ _ (x (goal.at.returns-then-x-eq0 c).After-parts-y) _ c.if-x-eq0.true)

pub returns-then-y-eq0 : goal.returns-then-y-eq0
returns-then-y-eq0 c = none (goal.at.returns-then-y-eq0 c).After-parts-y (zero_second _ _ _ _ (y (goal.at.returns-then-y-eq0 c).After-parts-y) c.if-y-eq0.true)

pub returns-in-Short : goal.returns-in-Short
returns-in-Short c = c.multiply_short.ensures ∙ said (parts (goal.at.returns-in-Short c).Else-y-eq0) c.in-Short.is

pub returns-in-Long : goal.returns-in-Long
returns-in-Long c = c.multiply_long.ensures ∙ said (parts (goal.at.returns-in-Long c).Else-y-eq0) c.in-Long.is
