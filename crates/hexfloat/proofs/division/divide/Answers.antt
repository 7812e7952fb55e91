-- `divide` meets its contract: each way out of the code has its law.
use mathlib.Core.Path.{◌≡◌, sym, ap, ◌∙◌}
use mathlib.Core.Bool.{Bool}
use Prim.Native.Nat.{ℕ, ◌+◌, ◌-◌, ◌*◌, ◌/◌, ◌^◌, ◌<◌}
use native.Mathlib.Nat.{pos_of_ne-zero}
use native.Mathlib.Omega.{arith}
use Rattle.hexfloat.specs.declared.word.Parts.{Parts}
use Rattle.hexfloat.specs.declared.word.Width.{Width}
use Rattle.hexfloat.specs.Answer.{gives, mapped}
use Rattle.hexfloat.specs.Word.{digits_of, words_of, magnitude}
use Rattle.hexfloat.specs.Divide.{quotient, quotient_words}
use Rattle.hexfloat.specs.Operand.{Operands, IsPlaced}
use Rattle.hexfloat.proofs.Divided.{Ready, dividend_bounds, divisor_bounds, lead_few, ratio_placed, in_words}
use Rattle.hexfloat.proofs.Fits.{held, no_bits, fraction_most}
use Rattle.hexfloat.proofs.Normalised.{magnitude_positive, magnitude-zero}
use Rattle.hexfloat.proofs.Results.{by_zero, by_some, of_zero}
use Rattle.hexfloat.proofs.division.divide.Goals as goal
use Rattle.hexfloat.proofs.division.divide.Goals.{After-leading_digits-fraction, After-leads-lead, After-parts-y}

-- with the parts of both operands
module _ (c : After-parts-y) where
  abbrev w : Width
  w = c.args.width

  abbrev mask : Bool
  mask = c.args.mask

  abbrev x : Parts
  x = c.parts-x.result

  abbrev y : Parts
  y = c.parts-y.result

  fits : Operands (digits_of w) x y
  fits =
      let a = c.args in
      held w a.a a.b c.parts-x.ensures c.parts-y.ensures (record { high = omega arith; low = omega arith }) (record { high = omega arith; low = omega arith })

  said : mapped (words_of w) (quotient (digits_of w) mask x y) ≡ quotient_words w mask c.args.a c.args.b
  said = in_words w mask c.args.a c.args.b c.parts-x.ensures c.parts-y.ensures

-- where neither is zero, with their normalised forms
module _ (c : After-leads-lead) where
  abbrev parts : After-parts-y
  parts = c.before.before.before.before.before.before.before.before

  abbrev d_is : c.digits-d.result ≡ digits_of (w parts)
  d_is = c.digits-d.ensures

  ready : Ready (digits_of (w parts)) (x parts) (y parts) c.normalise-n.result c.normalise-m.result c.leads-lead.result
  ready = record {
    dividend = (fits parts).first;
    divisor = (fits parts).second;
    some_dividend = c.if-x-eq0.false;
    some_divisor = c.if-y-eq0.false;
    normal_dividend = rw d_is at c.normalise-n.ensures;
    normal_divisor = rw d_is at c.normalise-m.ensures;
    leads = c.leads-lead.ensures;
  }

-- and with the digits of the quotient
placed : (c : After-leading_digits-fraction) → IsPlaced (digits_of (w (parts c.before)))
    (magnitude (digits_of (w (parts c.before))) (x (parts c.before)))
    (magnitude (digits_of (w (parts c.before))) (y (parts c.before)))
    (c.normalise-n.result.place + 64 + c.leads-lead.result)
    c.normalise-m.result.place
    c.leading_digits-fraction.result
placed c =
    rw (c.leading_digits-fraction.ensures ∙ ap (λ (k : ℕ). c.normalise-n.result.fraction * 16 ^ (k - c.leads-lead.result) / c.normalise-m.result.fraction) (d_is c.before))
    (ratio_placed (ready c.before))

pub returns-then-y-eq0 : goal.returns-then-y-eq0
returns-then-y-eq0 c =
    ap (mapped (words_of (w (goal.at.returns-then-y-eq0 c).After-parts-y))) (sym (by_zero _ _ _ _ (magnitude-zero _ (y (goal.at.returns-then-y-eq0 c).After-parts-y) c.if-y-eq0.true)))
    ∙ said (goal.at.returns-then-y-eq0 c).After-parts-y

pub returns-then-x-eq0 : goal.returns-then-x-eq0
returns-then-x-eq0 c =
    let s = (goal.at.returns-then-x-eq0 c).After-parts-y in
    ap gives (sym (no_bits (w s)))
    ∙ ap (mapped (words_of (w s)))
    (sym (by_some _ (mask s) (x s) (y s) (magnitude_positive (fits s).second (pos_of_ne-zero c.if-y-eq0.false)) ∙ of_zero _ _ _ _ _ (magnitude-zero _ (x s) c.if-x-eq0.true)))
    ∙ said s

pub leading_digits-fraction-requires : goal.leading_digits-fraction-requires
leading_digits-fraction-requires c =
    record {
      few = omega (arith, d_is c);
      many = omega (arith, d_is c, lead_few (ready c));
      dividend = (dividend_bounds (ready c)).most;
      divisor = (divisor_bounds (ready c)).most;
      normal = (divisor_bounds (ready c)).least;
    }

pub overflow_add-n : goal.overflow_add-n
overflow_add-n c = omega (arith, (dividend_bounds (ready (goal.at.overflow_add-n c).After-leads-lead)).place)

pub overflow_add-n-2 : goal.overflow_add-n-2
overflow_add-n-2 c = omega (arith, (dividend_bounds (ready (goal.at.overflow_add-n-2 c).After-leads-lead)).place, lead_few (ready (goal.at.overflow_add-n-2 c).After-leads-lead))

pub limited-requires : goal.limited-requires
limited-requires c = record { sign_bound = omega arith; fraction_bound = fraction_most (placed (goal.at.limited-requires c).After-leading_digits-fraction).characteristic (placed (goal.at.limited-requires c).After-leading_digits-fraction).fraction }

pub returns : goal.returns
returns c =
    let l = (goal.at.returns c).After-leading_digits-fraction in
    let s = parts l.before in
    let some : 0 < magnitude (digits_of (w s)) (y s) = (divisor_bounds (ready l.before)).positive in
    c.limited.ensures (magnitude (digits_of (w s)) (x s)) (magnitude (digits_of (w s)) (y s)) some (placed l)
    ∙ ap (mapped (words_of (w s))) (sym (by_some _ (mask s) (x s) (y s) some))
    ∙ said s
