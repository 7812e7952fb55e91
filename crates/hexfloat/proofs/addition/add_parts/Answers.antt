-- `add_parts` meets its contract: the aligned fractions are those of the intermediate sum, and in range.
use mathlib.Core.Path.{◌≡◌, sym, ap, ap₂, ◌∙◌, subst⁻¹, subst₂}
use Prim.Native.Nat.{ℕ, ◌+◌, ◌^◌, ◌≤◌, ◌<◌}
use native.Mathlib.Omega.{arith}
use Rattle.hexfloat.specs.declared.alignment.Prealigned.{Prealigned}
use Rattle.hexfloat.specs.declared.signed.Signed.{Signed}
use Rattle.hexfloat.specs.declared.word.Parts.{Parts}
use Rattle.hexfloat.specs.Add.{input, signed, intermediate_sum, result_of_sum, sum}
use Rattle.hexfloat.specs.Align.{common_characteristic, aligned}
use Rattle.hexfloat.specs.Answer.{mapped}
use Rattle.hexfloat.specs.Compare.{above, below}
use Rattle.hexfloat.specs.Operand.{Operands, Alignable, prealigned}
use Rattle.hexfloat.specs.Word.{digits_of, words_of}
use Rattle.hexfloat.proofs.Added.{inputs_fit, sum_fits}
use Rattle.hexfloat.proofs.Aligned.{common_most, aligned_most}
use Rattle.hexfloat.proofs.Fits.{alignable}
use Rattle.hexfloat.proofs.addition.add_parts.Goals as goal
use Rattle.hexfloat.proofs.addition.add_parts.Goals.{After-as_input-y, After-prealign-p, After-signed_sum-s, Start}

module _ (c : Start) where
  abbrev d : ℕ
  d = digits_of c.args.width

  abbrev x : Parts
  x = input c.args.a

  abbrev y : Parts
  y = input c.args.b

  abbrev common : ℕ
  common = common_characteristic x y

  fits : Operands d x y
  fits = inputs_fit c.requires

  aligns : Alignable 1 x y
  aligns = alignable 1 (omega arith) fits

  -- 15 digits hold every aligned fraction
  first_small : aligned 1 common x < 16 ^ 15
  first_small = aligned_most 1 common x 14 aligns.first

  second_small : aligned 1 common y < 16 ^ 15
  second_small = aligned_most 1 common y 14 aligns.second

-- with both inputs
module _ (c : After-as_input-y) where
  abbrev begin : Start
  begin = c.before.before

  x_is : c.as_input-x.result ≡ x begin
  x_is = c.as_input-x.ensures

  y_is : c.as_input-y.result ≡ y begin
  y_is = c.as_input-y.ensures

pub prealign-p-requires : goal.prealign-p-requires
prealign-p-requires c = subst₂ (Alignable 1) (sym (x_is c)) (sym (y_is c)) (aligns (begin c))

-- with both fractions aligned
module _ (c : After-prealign-p) where
  abbrev start : Start
  start = begin c.before

  aligned_are : c.prealign-p.result ≡ prealigned 1 (x start) (y start)
  aligned_are = c.prealign-p.ensures ∙ ap₂ (prealigned 1) (x_is c.before) (y_is c.before)

pub signed_sum-s-requires : goal.signed_sum-s-requires
unfolding prealigned
signed_sum-s-requires c =
    let s = start c in
    subst⁻¹ (λ (p : Prealigned). (p.first < 2 ^ 63) × (p.second < 2 ^ 63)) (aligned_are c) (omega (arith, first_small s), omega (arith, second_small s))

-- so their sum is the intermediate sum
sum_is : (c : After-signed_sum-s) → c.signed_sum-s.result ≡ intermediate_sum (x (start c.before)) (y (start c.before))
unfolding intermediate_sum prealigned
sum_is c =
    let b = c.before in
    c.signed_sum-s.ensures
    ∙ ap₂ (λ (p q : Parts). added p q b.prealign-p.result) (x_is b.before) (y_is b.before)
    ∙ ap (added (x (start b)) (y (start b))) (aligned_are b)
  where
    added : Parts → Parts → Prealigned → Signed
    added p q r = signed (above p.sign r.first + above q.sign r.second) (below p.sign r.first + below q.sign r.second)

pub normalise_sum-requires : goal.normalise_sum-requires
unfolding prealigned
normalise_sum-requires c =
    let b = (goal.at.normalise_sum-requires c).After-prealign-p in
    let s = start b in
    let m = sum_fits (x s) (y s) (first_small s) (second_small s) in
    subst₂ (λ (p : Prealigned) (t : Signed). (p.characteristic ≤ 127) × (t.sign ≤ 1) × (t.magnitude < 16 ^ 16)) (sym (aligned_are b)) (sym (sum_is c))
    (common_most (x s) (y s) (fits s).first.characteristic (fits s).second.characteristic, m.0, m.1)

pub returns : goal.returns
unfolding sum prealigned
returns c =
    let b = (goal.at.returns c).After-signed_sum-s in
    let s = start b.before in
    c.normalise_sum.ensures
    ∙ ap₂ (λ (p : Prealigned) (t : Signed). mapped (words_of s.args.width) (result_of_sum (d s) s.args.mask p.characteristic t)) (aligned_are b.before) (sum_is b)
