-- Digits: what the marked digit of a byte says of the byte, and the number of some digits in a base.
use mathlib.Core.Path.{◌≡◌, refl, sym, ap, ◌∙◌}
use mathlib.Core.Bool.{Bool, true, false}
use mathlib.Core.List.{List, [], ◌∷◌}
use Prim.Native.Nat.{ℕ, suc, ◌+◌, ◌*◌, ◌^◌, ◌≤◌, ◌<◌, zero-le}
use native.Mathlib.Nat.{le_trans, le_of_eq, lt_of_lt_of_le, mul-le-mul_right, mul_assoc, mul_comm, mul-one, pow-zero, pow-suc, pow-le-pow_left, pow-le-pow_right}
use native.Mathlib.Numerals.{add-one}
use native.Mathlib.Omega.{arith}
use lib.ListN.{length, get_or, drop, drop_of_length-le}
use lib.Dec.{leb}
use borrow.Author.Tests.{leb-true, leb-false, le-leb, lt-leb, lt-ltb, le-ltb, ltb-true}
use Rattle.hexfloat.proofs.Answers.{both}
use Rattle.hexfloat.specs.Answer.{gives, stops}
use Rattle.decktext.specs.Value.{all, is_digit, is_hexadecimal, digit_of, marked_digit, number_from}
use Rattle.decktext.specs.Walk.{digit_in, number_in}
use Rattle.decktext.proofs.Same.{next}

-- ---- a digit

data Marked (b : ℕ) : Type 0 where
  decimal : is_digit b ≡ true → is_hexadecimal b ≡ true → digit_of b ≤ 9 → Marked b
  letter : is_digit b ≡ false → is_hexadecimal b ≡ true → 10 ≤ digit_of b → digit_of b ≤ 15 → Marked b
  none : is_digit b ≡ false → is_hexadecimal b ≡ false → Marked b

marked_by : (b : ℕ) (p q r s : Bool) → leb 48 b ≡ p → leb b 57 ≡ q → leb 65 b ≡ r → leb b 70 ≡ s → Marked b
marked_by b true true r s ep eq er es =
    decimal (rw (ep, eq)) (rw (ep, eq)) (rw eq (let h = leb-true b 57 eq in omega arith))
marked_by b true false true true ep eq er es =
    letter (rw (ep, eq)) (rw (ep, eq, er, es)) (rw eq (let h = leb-true 65 b er in omega arith)) (rw eq (let h = leb-true b 70 es in omega arith))
marked_by b true false true false ep eq er es = none (rw (ep, eq)) (rw (ep, eq, er, es))
marked_by b true false false s ep eq er es = none (rw (ep, eq)) (rw (ep, eq, er))
marked_by b false q true s ep eq er es =
    let h = leb-false 48 b ep in
    let k = leb-true 65 b er in
    absurd (omega arith)
marked_by b false q false s ep eq er es = none (rw ep) (rw (ep, er))

marked : (b : ℕ) → Marked b
marked b = marked_by b (leb 48 b) (leb b 57) (leb 65 b) (leb b 70) refl refl refl refl

value_by : (b : ℕ) → Marked b → marked_digit b < 16 → marked_digit b ≡ digit_of b
value_by b (decimal d h l) m = rw h
value_by b (letter d h l g) m = rw h
value_by b (none d h) m = let k : 16 < 16 = rw h at m in absurd (omega arith)

-- the value of a byte that is marked as a digit
value : (b : ℕ) → marked_digit b < 16 → marked_digit b ≡ digit_of b
value b m = value_by b (marked b) m

decimal_by : (b : ℕ) → Marked b → digit_in 10 b ≡ is_digit b
decimal_by b (decimal d h l) = rw (h, d) (lt-ltb (digit_of b) 10 (omega arith))
decimal_by b (letter d h l g) = rw (h, d) (le-ltb (digit_of b) 10 l)
decimal_by b (none d h) = rw (h, d)

pub decimal_digit : (b : ℕ) → digit_in 10 b ≡ is_digit b
decimal_digit b = decimal_by b (marked b)

hexadecimal_by : (b : ℕ) → Marked b → digit_in 16 b ≡ is_hexadecimal b
hexadecimal_by b (decimal d h l) = rw h (lt-ltb (digit_of b) 16 (omega arith))
hexadecimal_by b (letter d h l g) = rw h (lt-ltb (digit_of b) 16 (omega arith))
hexadecimal_by b (none d h) = rw h

pub hexadecimal-digit : (b : ℕ) → digit_in 16 b ≡ is_hexadecimal b
hexadecimal-digit b = hexadecimal_by b (marked b)

decimal_byte_by : (b : ℕ) → Marked b → marked_digit b < 10 → b ≡ 48 + marked_digit b
decimal_byte_by b (decimal d h l) m =
    let a = both (leb 48 b) (leb b 57) d in
    let low = leb-true 48 b a.0 in
    rw (h, a.1) (omega arith)
decimal_byte_by b (letter d h l g) m = let k : digit_of b < 10 = rw h at m in absurd (omega arith)
decimal_byte_by b (none d h) m = let k : 16 < 10 = rw h at m in absurd (omega arith)

-- the byte of a digit below ten
pub decimal_byte : (b : ℕ) → marked_digit b < 10 → b ≡ 48 + marked_digit b
decimal_byte b m = decimal_byte_by b (marked b) m

pub all_same : (f g : ℕ → Bool) → ((b : ℕ) → f b ≡ g b) → (v : List ℕ) → all f v ≡ all g v
unfolding all
all_same f g h [] = refl
all_same f g h (b ∷ v) = rw (h b, all_same f g h v)

-- ---- the room that a number needs

-- one more digit
pub grown : (base i : ℕ) {n d : ℕ} → n < base ^ i → d < base → n * base + d < base ^ (i + 1)
grown base i {n} {d} h l =
    rw (add-one, pow-suc) (let k : suc n * base ≤ base ^ i * base = mul-le-mul_right base h in omega arith)

-- room for all of them
pub within : (base i k : ℕ) {n : ℕ} → 0 < base → n < base ^ i → i ≤ k → n < base ^ k
within base i k p h l = lt_of_lt_of_le h (pow-le-pow_right p l)

-- a number is below the power of its length
below : (base : ℕ) (v : List ℕ) (n : ℕ) → base ≤ 16 → all (digit_in base) v ≡ true → number_from base n v < suc n * base ^ length v
unfolding all number_from
below base [] n s h = rw (pow-zero base, mul-one) (omega arith)
below base (b ∷ v) n s h =
    let a = both (digit_in base b) (all (digit_in base) v) h in
    let l = ltb-true (marked_digit b) base a.0 in
    let e = value b (lt_of_lt_of_le l s) in
    let k : suc (n * base + digit_of b) ≤ suc n * base = rw (← e) (more n (marked_digit b) base l) in
    lt_of_lt_of_le (below base v (n * base + digit_of b) s a.1)
    (le_trans (mul-le-mul_right (base ^ length v) k) (le_of_eq (mul_assoc (suc n) base (base ^ length v) ∙ ap (λ (x : ℕ). suc n * x) (mul_comm base (base ^ length v) ∙ sym (pow-suc base (length v))))))
  where
    more : (n d base : ℕ) → d < base → suc (n * base + d) ≤ suc n * base
    more n d base l = omega arith

-- four hexadecimal digits
pub word_below : (v : List ℕ) → length v ≡ 4 → all (digit_in 16) v ≡ true → number_from 16 0 v ≤ 65535
word_below v l h =
    let k : number_from 16 0 v < suc 0 * 16 ^ 4 = rw l at (below 16 v 0 (omega arith) h) in
    omega arith

-- ---- a number, digit by digit: what holds between two digits, and its laws (start, on, stop, end)

-- n is the number of the first i bytes, all of them digits
pub record Number (base : ℕ) (v : List ℕ) (n i : ℕ) : Type 0 where
  pub inside : i ≤ length v
  pub room : n < base ^ i
  pub digits : all (digit_in base) v ≡ all (digit_in base) (drop i v)
  pub number : number_from base 0 v ≡ number_from base n (drop i v)

pub start : (base : ℕ) (v : List ℕ) → Number base v 0 0
start base v = record { inside = zero-le; room = rw (pow-zero base) (omega arith); digits = refl; number = refl }

module _ {base : ℕ} {v : List ℕ} {n i : ℕ} (r : Number base v n i) where
  -- any further digit fits a u32
  pub fits : (d : ℕ) → 0 < base → base ≤ 16 → length v ≤ 5 → i < length v → d < base → n * base + d < 2 ^ 32
  fits d p s l h k =
      lt_of_lt_of_le (within base (i + 1) 5 p (grown base i r.room k) (omega arith))
      (le_trans (pow-le-pow_left s 5) (omega arith))

  module _ (d : ℕ) (l : i < length v) (e : d ≡ marked_digit (get_or v i 0)) where
    pub on : d < base → base ≤ 16 → Number base v (n * base + d) (i + 1)
    unfolding all number_from
    on h s =
        let m : marked_digit (get_or v i 0) < base = rw e at h in
        let q : d ≡ digit_of (get_or v i 0) = e ∙ value (get_or v i 0) (lt_of_lt_of_le m s) in
        record {
          inside = omega arith;
          room = grown base i r.room h;
          digits = r.digits ∙ rw (next v i l, lt-ltb (marked_digit (get_or v i 0)) base m);
          number = r.number ∙ rw (next v i l, q);
        }

    pub stop : base ≤ d → stops 16 ≡ number_in base v
    unfolding all number_in
    stop h =
        let m : base ≤ marked_digit (get_or v i 0) = rw e at h in
        let z : all (digit_in base) v ≡ false = r.digits ∙ rw (next v i l, le-ltb (marked_digit (get_or v i 0)) base m) in
        rw z

  module _ (l : length v ≤ i) where
    all_digits : all (digit_in base) v ≡ true
    unfolding all
    all_digits = r.digits ∙ rw (drop_of_length-le v l)

    is_number : number_from base 0 v ≡ n
    unfolding number_from
    is_number = r.number ∙ rw (drop_of_length-le v l)

    pub end : n ≤ 65535 → gives n ≡ number_in base v
    unfolding number_in
    end h = rw (all_digits, is_number, le-leb n 65535 h)

    pub end_large : 65535 < n → stops 16 ≡ number_in base v
    unfolding number_in
    end_large h = rw (all_digits, is_number, lt-leb n 65535 h)
