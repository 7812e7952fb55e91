-- Decimals, protect digits and words: what else is asked of them than digits.
use mathlib.Core.Path.{◌≡◌, refl, sym, ap, ◌∙◌}
use mathlib.Core.Bool.{Bool, true, false, not, ◌&&◌}
use mathlib.Core.List.{List, [], ◌∷◌}
use Prim.Native.Nat.{ℕ, ◌+◌, ◌-◌, ◌*◌, ◌^◌, ◌≤◌, ◌<◌}
use native.Mathlib.Nat.{one-mul, le_trans, le_of_eq, lt_of_lt_of_le, mul-one, mul_assoc, mul_comm, mul-le-mul_right, pow-suc, pow-le-pow_right}
use native.Mathlib.Omega.{arith}
use lib.ListN.{length, get_or}
use lib.Dec.{eqb, leb, ltb}
use borrow.Author.Tests.{eq-eqb, eqb-true, eqb-false, leb-true, le-leb, lt-leb, ltb-true, ne_eqb}
use Rattle.hexfloat.proofs.Answers.{both}
use Rattle.hexfloat.specs.Answer.{gives, stops, provided}
use Rattle.decktext.specs.Text.{same}
use Rattle.decktext.specs.Value.{all, is_digit, is_hexadecimal, digit_of, marked_digit, number_from, plain, decimal_of, protect_of, word_of}
use Rattle.decktext.specs.Walk.{digit_in, number_in}
use Rattle.decktext.proofs.Digits.{decimal_digit, hexadecimal-digit, decimal_byte, all_same, word_below}
use Rattle.decktext.proofs.Same.{same_length, single}

-- a number has at least n before its digits
pub number_grows : (v : List ℕ) (n : ℕ) → n * 10 ^ length v ≤ number_from 10 n v
unfolding number_from
number_grows [] n = le_of_eq (mul-one n)
number_grows (b ∷ v) n =
    le_trans
    (le_trans (le_of_eq (ap (λ (x : ℕ). n * x) (pow-suc 10 (length v) ∙ mul_comm (10 ^ length v) 10) ∙ sym (mul_assoc n 10 (10 ^ length v))))
    (mul-le-mul_right (10 ^ length v) (omega arith)))
    (number_grows v (n * 10 + digit_of b))

-- no zero in front of five more digits: more than 65,535
big : (b : ℕ) (v : List ℕ) → is_digit b ≡ true → eqb b 48 ≡ false → 5 ≤ length v → 65535 < number_from 10 0 (b ∷ v)
unfolding number_from
big b v d z l =
    let a = both (leb 48 b) (leb b 57) d in
    let h = leb-true 48 b a.0 in
    let ne = eqb-false b 48 z in
    let one : 1 ≤ 0 * 10 + digit_of b = rw a.1 (above h ne) in
    lt_of_lt_of_le (lt_of_lt_of_le wide (le_trans (pow-le-pow_right ten l) (le_trans (le_of_eq (sym (one-mul (10 ^ length v)))) (mul-le-mul_right (10 ^ length v) one)))) (number_grows v (0 * 10 + digit_of b))
  where
    above : 48 ≤ b → (b ≡ 48 → ⊥) → 1 ≤ 0 * 10 + (b - 48)
    above h ne = omega arith

    wide : 65535 < 10 ^ 5
    wide = omega arith

    ten : 0 < 10
    ten = omega arith

long_by : (b c : ℕ) (v : List ℕ) (z d : Bool) → eqb b 48 ≡ z → is_digit b ≡ d → 5 ≤ length (c ∷ v) → stops 16 ≡ decimal_of (b ∷ c ∷ v)
unfolding decimal_of all
long_by b c v true d ez ed l = rw ez
long_by b c v false false ez ed l = rw (ez, ed)
long_by b c v false true ez ed l = sym (closed (all is_digit (c ∷ v)) (big b (c ∷ v) ed ez l))
  where
    closed : (t : Bool) → 65535 < number_from 10 0 (b ∷ c ∷ v) → provided (not (eqb b 48) && ((is_digit b && t) && leb (number_from 10 0 (b ∷ c ∷ v)) 65535)) 16 (gives (number_from 10 0 (b ∷ c ∷ v))) ≡ stops 16
    closed true h = rw (ez, ed, lt-leb _ 65535 h)
    closed false h = rw (ez, ed)

pub decimal_long : (v : List ℕ) → 5 < length v → stops 16 ≡ decimal_of v
decimal_long [] l = absurd (omega arith)
decimal_long (b ∷ []) l = absurd (omega arith)
decimal_long (b ∷ c ∷ v) l = long_by b c v (eqb b 48) (is_digit b) refl refl (omega arith)

pub decimal_none : (v : List ℕ) → length v ≡ 0 → stops 16 ≡ decimal_of v
unfolding decimal_of
decimal_none [] l = refl
decimal_none (b ∷ v) l = absurd (omega arith)

-- more digits have no 0 in front
pub decimal_leading : (v : List ℕ) → 1 < length v → marked_digit (get_or v 0 0) ≡ 0 → stops 16 ≡ decimal_of v
unfolding decimal_of
decimal_leading [] l z = absurd (omega arith)
decimal_leading (b ∷ []) l z = absurd (omega arith)
decimal_leading (b ∷ c ∷ v) l z = let e : b ≡ 48 = omega (arith, decimal_byte b (omega arith)) in rw e

-- the number of a plain decimal: of one digit, and of more with no 0 in front
decimal-plain : (v : List ℕ) → plain v ≡ true → number_in 10 v ≡ decimal_of v
unfolding decimal_of number_in
decimal-plain v p = rw (p, all_same (digit_in 10) is_digit decimal_digit v)

pub decimal-single : (v : List ℕ) → length v ≡ 1 → number_in 10 v ≡ decimal_of v
decimal-single v l = decimal-plain v (rw (single v l))

pub decimal_number : (v : List ℕ) → 1 < length v → (marked_digit (get_or v 0 0) ≡ 0 → ⊥) → number_in 10 v ≡ decimal_of v
decimal_number [] l h = absurd (omega arith)
decimal_number (b ∷ []) l h = absurd (omega arith)
decimal_number (b ∷ c ∷ v) l h = decimal-plain (b ∷ c ∷ v) (rw (ne_eqb b 48 (λ e. h (ap marked_digit e))))

-- what a decimal is, by its length and its first digit
pub ruleset decimal_cases = (decimal_none, decimal_long, decimal-single, decimal_leading, decimal_number)

-- the number of a protect digit
protect_by : (b : ℕ) (p q : Bool) → eqb b 48 ≡ p → eqb b 49 ≡ q → number_in 2 (b ∷ []) ≡ protect_of (b ∷ [])
unfolding all number_from number_in protect_of same
protect_by b true q ep eq = rw (eqb-true b 48 ep)
protect_by b false true ep eq = rw (eqb-true b 49 eq)
protect_by b false false ep eq = rw (ep, eq, other (ltb (marked_digit b) 2) refl)
  where
    other : (t : Bool) → ltb (marked_digit b) 2 ≡ t → ltb (marked_digit b) 2 ≡ false
    other true e =
        let l = ltb-true (marked_digit b) 2 e in
        let z = eqb-false b 48 ep in
        let o = eqb-false b 49 eq in
        absurd (omega (arith, decimal_byte b (omega arith)))
    other false e = e

pub protect_number : (v : List ℕ) → length v ≡ 1 → number_in 2 v ≡ protect_of v
protect_number [] l = absurd (omega arith)
protect_number (b ∷ []) l = protect_by b (eqb b 48) (eqb b 49) refl refl
protect_number (b ∷ c ∷ v) l = absurd (omega arith)

pub protect_other : (v : List ℕ) → (length v ≡ 1 → ⊥) → stops 16 ≡ protect_of v
unfolding protect_of
protect_other v h = rw (same_length v (48 ∷ []) h, same_length v (49 ∷ []) h)

-- the number of a word
word_by : (v : List ℕ) (t : Bool) → length v ≡ 4 → all (digit_in 16) v ≡ t → number_in 16 v ≡ word_of v
unfolding number_in word_of
word_by v true l h = rw (eq-eqb (length v) 4 l, ← all_same (digit_in 16) is_hexadecimal hexadecimal-digit v, h, le-leb _ 65535 (word_below v l h))
word_by v false l h = rw (eq-eqb (length v) 4 l, ← all_same (digit_in 16) is_hexadecimal hexadecimal-digit v, h)

pub word_number : (v : List ℕ) → length v ≡ 4 → number_in 16 v ≡ word_of v
word_number v l = word_by v (all (digit_in 16) v) l refl

pub word_other : (v : List ℕ) → (length v ≡ 4 → ⊥) → stops 16 ≡ word_of v
unfolding word_of
word_other v h = rw (ne_eqb (length v) 4 h)
