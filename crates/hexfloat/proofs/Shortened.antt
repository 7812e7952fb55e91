-- What leaving the low by low part out of a product would do, over the digits d and the split l.
use mathlib.Core.Path.{◌≡◌, refl, sym, ap, ap₂, ◌∙◌, subst₂}
use mathlib.Core.Bool.{true}
use Prim.Native.Nat.{ℕ, suc, ◌+◌, ◌-◌, ◌*◌, ◌/◌, ◌%◌, ◌^◌, ◌≤◌, ◌<◌}
use native.Mathlib.Nat.{le_trans, le_of_eq, le_of_lt, lt_of_lt_of_le, lt_of_le_of_lt, le_of_suc-le-suc, not-le_of_lt, add-le-add, mul-le-mul, mul-le-mul_left, mul-le-mul_right, mul-lt-mul_of_pos_right, le_of_mul-le-mul_right, lt_of_mul-lt-mul_right, mul_assoc, mul_comm, mul_right_comm, add-mul, suc-mul, one-mul, div-add-mod', mod-le, mod-lt, le-div_iff_mul-le, pow-suc, mul-pos, sub-le}
use native.Mathlib.Omega.{arith}
use lib.Pow.{pow-add}
use Rattle.hexfloat.specs.declared.word.Parts.{Parts}
use Rattle.hexfloat.specs.Answer.{gives}
use Rattle.hexfloat.specs.Multiply.{product}
use Rattle.hexfloat.specs.Normal.{IsCharacteristic, IsFraction}
use Rattle.hexfloat.specs.Result.{sign_by_algebra, result_of}
use Rattle.hexfloat.specs.Theorems.{low_part, without_low_by_low, shortened_product, IsNormalised, AtMostOneUnitLower, LowByLow}
use Rattle.hexfloat.specs.Word.{magnitude}
use Rattle.hexfloat.proofs.Answers.{gives_inj, never}
use Rattle.hexfloat.proofs.Digits.{pos, mono, power_lt, product-below}
use Rattle.hexfloat.proofs.Fits.{fraction_most}
use Rattle.hexfloat.proofs.Multiplied.{places, product_moved}
use Rattle.hexfloat.proofs.Placed.{parted}
use Rattle.hexfloat.proofs.Theorems.{result_cases}
use Rattle.hexfloat.proofs.Trichotomy.{Trichotomy, less, same, more, trichotomy}

-- a ratio with its characteristic and its fraction of d digits
record Cut (d a b c f : ℕ) : Type 0 where
  characteristic : IsCharacteristic a b c
  fraction : IsFraction d a b c f

-- Two ratios to one divisor, the second no larger, both cut to d digits.
module _ {d a a' b c c' f f' : ℕ} (some : 0 < d) (divisor : 0 < b) (below : a' ≤ a) (r : Cut d a b c f) (r' : Cut d a' b c' f') where
  abbrev unit : ℕ
  unit = 16 ^ c * b

  abbrev unit' : ℕ
  unit' = 16 ^ c' * b

  -- its characteristic is no larger
  no_higher : c' ≤ c
  no_higher =
      le_of_suc-le-suc
      (power_lt (lt_of_mul-lt-mul_right b
      (lt_of_le_of_lt (le_trans r'.characteristic.least (mul-le-mul_right (16 ^ 65) below))
      (lt_of_le_of_lt (le_of_eq (sym (mul_assoc a (16 ^ 64) 16))) (lt_of_lt_of_le (mul-lt-mul_of_pos_right r.characteristic.most (omega arith)) (le_of_eq (mul_right_comm (16 ^ c) b 16 ∙ ap (λ (x : ℕ). x * b) (sym (pow-suc 16 c)))))))))

  -- the first fraction has d digits
  first_digit : 16 ^ (d - 1) ≤ f
  first_digit = le_of_suc-le-suc (lt_of_mul-lt-mul_right unit (lt_of_le_of_lt (le_trans (mul-le-mul_left (16 ^ (d - 1)) r.characteristic.least) (le_of_eq raised)) r.fraction.most))
    where
      raised : 16 ^ (d - 1) * (a * 16 ^ 65) ≡ a * 16 ^ (64 + d)
      raised = mul_comm (16 ^ (d - 1)) (a * 16 ^ 65) ∙ sym (parted a 65 (d - 1) (64 + d) (omega arith))

  -- with one characteristic the fractions are cut at one place
  alike : c' ≡ c → f' ≤ f
  alike e =
      le_of_suc-le-suc (lt_of_mul-lt-mul_right unit
      (lt_of_le_of_lt (le_trans (le_of_eq (ap (λ (x : ℕ). f' * (16 ^ x * b)) (sym e))) (le_trans r'.fraction.least (mul-le-mul_right (16 ^ (64 + d)) below))) r.fraction.most))

  never_higher : f' * 16 ^ c' ≤ f * 16 ^ c
  never_higher = go (trichotomy c' c)
    where
      go : Trichotomy c' c → f' * 16 ^ c' ≤ f * 16 ^ c
      go (less h) =
          le_trans (mul-le-mul_right (16 ^ c') (le_of_lt (fraction_most r'.characteristic r'.fraction)))
          (le_trans (le_of_eq (sym (pow-add 16 d c')))
          (le_trans (mono (next h)) (le_trans (le_of_eq (pow-add 16 (d - 1) c)) (mul-le-mul_right (16 ^ c) first_digit))))
        where
          next : c' < c → d + c' ≤ d - 1 + c
          next h = omega arith
      go (same e) = le_trans (mul-le-mul_right (16 ^ c') (alike e)) (le_of_eq (ap (λ (x : ℕ). f * 16 ^ x) e))
      go (more h) = absurd (not-le_of_lt h no_higher)

  -- where no more than a unit of the second is lost, the first is no more than a unit of its own above
  module _ (lost : (a - a') * 16 ^ (64 + d) ≤ unit') where
    near : f * unit < (f' + 2) * unit'
    near = lt_of_le_of_lt r.fraction.least (total (a * 16 ^ (64 + d)) (a' * 16 ^ (64 + d)) (f' * unit') kept (lt_of_lt_of_le r'.fraction.most (le_of_eq (suc-mul f' unit'))) (add-mul f' 2 unit'))
      where
        whole : a ≡ a' + (a - a')
        whole = omega arith

        kept : a * 16 ^ (64 + d) ≡ a' * 16 ^ (64 + d) + (a - a') * 16 ^ (64 + d)
        kept = ap (λ (x : ℕ). x * 16 ^ (64 + d)) whole ∙ add-mul a' (a - a') (16 ^ (64 + d))

        total : (x y z : ℕ) → x ≡ y + (a - a') * 16 ^ (64 + d) → y < z + unit' → (f' + 2) * unit' ≡ z + 2 * unit' → x < (f' + 2) * unit'
        total x y z e l g = omega (arith, lost)

    one_unit : f * 16 ^ c ≤ f' * 16 ^ c' + 16 ^ c
    one_unit = go (trichotomy c' c)
      where
        apart : f * 16 ^ c < (f' + 2) * 16 ^ c'
        apart = lt_of_mul-lt-mul_right b (lt_of_le_of_lt (le_of_eq (mul_assoc f (16 ^ c) b)) (lt_of_lt_of_le near (le_of_eq (sym (mul_assoc (f' + 2) (16 ^ c') b)))))

        go : Trichotomy c' c → f * 16 ^ c ≤ f' * 16 ^ c' + 16 ^ c
        go (less h) = wide (f * 16 ^ c) (f' * 16 ^ c') (16 ^ c') (16 ^ c) (lt_of_lt_of_le apart (le_of_eq (add-mul f' 2 (16 ^ c')))) (le_trans (le_of_eq (sym (pow-suc 16 c'))) (mono h))
          where
            wide : (x y u v : ℕ) → x < y + 2 * u → u * 16 ≤ v → x ≤ y + v
            wide x y u v l m = omega arith
        go (same e) =
            let near_by : f < f' + 2 = lt_of_mul-lt-mul_right (16 ^ c) (lt_of_lt_of_le apart (le_of_eq (ap (λ (x : ℕ). (f' + 2) * 16 ^ x) e))) in
            le_trans (mul-le-mul_right (16 ^ c) (one_more near_by))
            (le_of_eq (add-mul f' 1 (16 ^ c) ∙ ap₂ (λ (x y : ℕ). f' * 16 ^ x + y) (sym e) (one-mul (16 ^ c))))
          where
            one_more : f < f' + 2 → f ≤ f' + 1
            one_more h = omega arith
        go (more h) = absurd (not-le_of_lt h no_higher)

-- Two normalised numbers of d digits, each split before its last l, fewer than half.
module _ (d l : ℕ) (x y : Parts) (half : 2 * l < d) (nx : IsNormalised d x) (ny : IsNormalised d y) where
  abbrev fractions : ℕ
  fractions = x.fraction * y.fraction

  abbrev low : ℕ
  low = x.fraction % 16 ^ l * (y.fraction % 16 ^ l)

  abbrev p : ℕ
  p = places d x y

  -- in units of the last digit
  without : without_low_by_low d l x y ≡ fractions * 16 ^ p - low * 16 ^ p
  unfolding without_low_by_low
  without = ap₂ (λ (u v : ℕ). u - v) (product_moved d x y) (product_moved d (low_part l x) (low_part l y))

  first_digit_of : (f : ℕ) → 16 ^ d ≤ f * 16 → 16 ^ (d - 1) ≤ f
  first_digit_of f h = le_of_mul-le-mul_right (le_trans (le_of_eq (sym (pow-suc 16 (d - 1)) ∙ ap (λ (z : ℕ). 16 ^ z) (one_less half))) h) (omega arith)
    where
      one_less : 2 * l < d → suc (d - 1) ≡ d
      one_less h = omega arith

  -- the high part of the first keeps its first digit
  high_part : 16 ^ (d - 1) ≤ x.fraction / 16 ^ l * 16 ^ l
  high_part =
      le_trans (le_of_eq (ap (λ (z : ℕ). 16 ^ z) (split half) ∙ pow-add 16 (d - 1 - l) l))
      (mul-le-mul_right (16 ^ l)
      ((le-div_iff_mul-le (pos l)).1 (le_trans (le_of_eq (sym (pow-add 16 (d - 1 - l) l) ∙ ap (λ (z : ℕ). 16 ^ z) (sym (split half)))) (first_digit_of x.fraction nx.least))))
    where
      split : 2 * l < d → d - 1 ≡ d - 1 - l + l
      split h = omega arith

  -- what is left has the first digit of the whole, or the one after it
  left : 16 ^ (d - 1) * 16 ^ (d - 1) + low ≤ fractions
  left =
      le_trans
      (add-le-add (mul-le-mul high_part (first_digit_of y.fraction ny.least)) (mul-le-mul_left (x.fraction % 16 ^ l) (mod-le y.fraction (16 ^ l))))
      (le_of_eq (sym (add-mul (x.fraction / 16 ^ l * 16 ^ l) (x.fraction % 16 ^ l) y.fraction) ∙ ap (λ (z : ℕ). z * y.fraction) (div-add-mod' x.fraction (16 ^ l))))

  abbrev whole : ℕ
  whole = magnitude d x * magnitude d y

  abbrev rest : ℕ
  rest = without_low_by_low d l x y

  -- the same at the places of both
  left_moved : 16 ^ (d - 1) * 16 ^ (d - 1) * 16 ^ p + low * 16 ^ p ≤ fractions * 16 ^ p
  left_moved = le_trans (le_of_eq (sym (add-mul (16 ^ (d - 1) * 16 ^ (d - 1)) low (16 ^ p)))) (mul-le-mul_right (16 ^ p) left)

  rest_least : 16 ^ (d - 1) * 16 ^ (d - 1) * 16 ^ p ≤ rest
  rest_least = le_trans (enough (16 ^ (d - 1) * 16 ^ (d - 1) * 16 ^ p) (low * 16 ^ p) (fractions * 16 ^ p) left_moved) (le_of_eq (sym without))
    where
      enough : (a b c : ℕ) → a + b ≤ c → a ≤ c - b
      enough a b c h = omega arith

  rest_most : rest ≤ whole
  unfolding without_low_by_low
  rest_most = sub-le whole (magnitude d (low_part l x) * magnitude d (low_part l y))

  left_out : whole - rest ≡ low * 16 ^ p
  left_out =
      ap₂ (λ (u v : ℕ). u - v) (product_moved d x y) without
      ∙ back (16 ^ (d - 1) * 16 ^ (d - 1) * 16 ^ p) (low * 16 ^ p) (fractions * 16 ^ p) left_moved
    where
      back : (a b c : ℕ) → a + b ≤ c → c - (c - b) ≡ b
      back a b c h = omega arith

  low_most : low < 16 ^ (l + l)
  low_most = lt_of_lt_of_le (product-below (mod-lt x.fraction (pos l)) (mod-lt y.fraction (pos l))) (le_of_eq (sym (pow-add 16 l l)))

  -- so less is left out than a unit of what is given
  left_out_most : (c : ℕ) → IsCharacteristic rest (16 ^ 156) c → (whole - rest) * 16 ^ (64 + d) ≤ 16 ^ c * 16 ^ 156
  left_out_most c r =
      le_trans (le_of_eq (ap (λ (z : ℕ). z * 16 ^ (64 + d)) left_out ∙ sym (parted low p (64 + d) (p + (64 + d)) refl)))
      (le_trans (mul-le-mul_right (16 ^ (p + (64 + d))) (le_of_lt low_most))
      (le_trans (le_of_eq (sym (pow-add 16 (l + l) (p + (64 + d))))) (le_trans (mono (apart half reach)) (le_of_eq (pow-add 16 c 156)))))
    where
      reach : d - 1 + (d - 1) + (p + 64) < c + 156
      reach =
          power_lt
          (lt_of_le_of_lt (le_of_eq (pow-add 16 (d - 1 + (d - 1)) (p + 64) ∙ ap (λ (z : ℕ). z * 16 ^ (p + 64)) (pow-add 16 (d - 1) (d - 1)) ∙ parted (16 ^ (d - 1) * 16 ^ (d - 1)) p 64 (p + 64) refl))
          (lt_of_le_of_lt (mul-le-mul_right (16 ^ 64) rest_least) (lt_of_lt_of_le r.most (le_of_eq (sym (pow-add 16 c 156))))))

      apart : 2 * l < d → d - 1 + (d - 1) + (p + 64) < c + 156 → l + l + (p + (64 + d)) ≤ c + 156
      apart h k = omega arith

  abbrev number : ℕ → ℕ → Parts
  number c f = record { sign = sign_by_algebra x y; characteristic = c; fraction = f }

  compared : (c f c' f' : ℕ) → Cut d whole (16 ^ 156) c f → Cut d rest (16 ^ 156) c' f' → AtMostOneUnitLower d (number c f) (number c' f')
  unfolding magnitude
  compared c f c' f' r r' = record {
    never_higher = subst₂ (λ (u v : ℕ). u ≤ v) (sym (moved f' c')) (sym (moved f c)) (mul-le-mul_right (16 ^ (14 - d)) (never_higher some (pos 156) rest_most r r'));
    one_unit = subst₂ (λ (u v : ℕ). u ≤ v) (sym (moved f c)) (add-mul (f' * 16 ^ c') (16 ^ c) (16 ^ (14 - d)) ∙ ap₂ (λ (u v : ℕ). u + v) (sym (moved f' c')) (sym (pow-add 16 c (14 - d))))
        (mul-le-mul_right (16 ^ (14 - d)) (one_unit some (pos 156) rest_most r r' (left_out_most c' r'.characteristic)));
  }
    where
      some : 0 < d
      some = omega (arith, half)

      moved : (g k : ℕ) → g * 16 ^ (k + (14 - d)) ≡ g * 16 ^ k * 16 ^ (14 - d)
      moved g k = parted g k (14 - d) (k + (14 - d)) refl

  rest_some : 0 < rest
  rest_some = lt_of_lt_of_le (mul-pos (mul-pos (pos (d - 1)) (pos (d - 1))) (pos p)) rest_least

  -- each product that is given is a number that was cut
  given : (a : ℕ) → 0 < a → (q : Parts) → result_of d true (sign_by_algebra x y) a (16 ^ 156) ≡ gives q → (c : ℕ) × (f : ℕ) × Cut d a (16 ^ 156) c f × (number c f ≡ q)
  given a some q =
      result_cases d true (sign_by_algebra x y) a (16 ^ 156) (pos 156)
      (λ r. r ≡ gives q → (c : ℕ) × (f : ℕ) × Cut d a (16 ^ 156) c f × (number c f ≡ q))
      (λ z g. absurd (not-le_of_lt some (le_of_eq z)))
      (λ c r h g. never g)
      (λ k hk r g. never g)
      (λ c f r h s g. (c, f, record { characteristic = r; fraction = s }, gives_inj g))

  lower : (u v : Parts) → product d d true x y ≡ gives u → shortened_product d l true x y ≡ gives v → AtMostOneUnitLower d u v
  unfolding product shortened_product
  lower u v g h =
      let q = given whole (lt_of_lt_of_le rest_some rest_most) u g in
      let r = given rest rest_some v h in
      subst₂ (AtMostOneUnitLower d) q.3 r.3 (compared q.0 q.1 r.0 r.1 q.2 r.2)

pub low_by_low : (d l : ℕ) (x y : Parts) → LowByLow d l x y
low_by_low d l x y = record { given = lower d l x y }
