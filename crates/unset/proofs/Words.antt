-- Bits of a word: those of the operations on words, and those of the word of some registers.
use Prim.Native.Nat.{ℕ, zero, suc, ◌+◌, ◌-◌, ◌*◌, ◌/◌, ◌%◌, ◌^◌, ◌<◌, ◌≤◌, min, max}
use mathlib.Core.Path.{◌≡◌, refl, sym, ap, ◌∙◌}
use mathlib.Core.List.Memᴰ
use mathlib.Core.List.{List, [], ◌∷◌, Memᴰ}
use mathlib.Core.Logic.{◌⊎◌, inl, inr}
use mathlib.Core.Bool.{Bool, true, false, cond, not, ◌&&◌, ◌||◌, or-true}
use lib.Bits.{bit_and, bit_or, bit_xor, differ, and_step, or_step, xor_step, and_shr, or_shr, xor_shr, or_lt, xor_lt}
use lib.Dec.{eqb, ltb}
use lib.Count.{count_trailing_zeros, under}
use lib.Pow.{pow_pos, pow-lt}
use native.Mathlib.Nat.{pow-suc, mod-lt, div-one, div-div-eq-div-mul, mul_comm}
use native.Mathlib.Omega.{arith}
use borrow.Author.Tests.{eq-eqb, eqb-true, eqb-false, lt-ltb, le-ltb, ltb-true, ltb-false}
use Rattle.machine.specs.Uses.{Register, float, general}
use Rattle.unset.specs.Answer.{rank}
use Rattle.unset.specs.Bits.{register_of, in_word, bits_of, all, without}

-- no test is both
pub never_both : {b : Bool} → b ≡ true → b ≡ false → ⊥
never_both t f = let y : ◌≡◌ {A = ℕ} 0 1 = cc in omega arith

-- one of two tests passes
pub either : (a b : Bool) → (a || b) ≡ true → (a ≡ true) ⊎ (b ≡ true)
either true b h = inl refl
either false b h = inr h

-- ---- an operation on words works on each bit by itself: g on words, f on digits, h on what the digits say
module _ (g f : ℕ → ℕ → ℕ) (h : Bool → Bool → Bool)
    (shifted : (a b k : ℕ) → g a b / 2 ^ k ≡ g (a / 2 ^ k) (b / 2 ^ k))
    (lowest : (a b : ℕ) → g a b ≡ g (a / 2) (b / 2) * 2 + f (a % 2) (b % 2))
    (digit : (x y : ℕ) → x < 2 → y < 2 → (f x y < 2) × (eqb (f x y) 1 ≡ h (eqb x 1) (eqb y 1))) where
  by_bits : (k a b : ℕ) → in_word k (g a b) ≡ h (in_word k a) (in_word k b)
  unfolding in_word
  by_bits k a b =
      let x = a / 2 ^ k in
      let y = b / 2 ^ k in
      let two : 0 < 2 = omega arith in
      let d = digit (x % 2) (y % 2) (mod-lt x two) (mod-lt y two) in
      let e : g a b / 2 ^ k % 2 ≡ f (x % 2) (y % 2) = ap (λ (z : ℕ). z % 2) (shifted a b k ∙ lowest x y) ∙ odd (g (x / 2) (y / 2)) (f (x % 2) (y % 2)) d.0 in
      ap (λ (z : ℕ). eqb z 1) e ∙ d.1
    where
      odd : (q r : ℕ) → r < 2 → (q * 2 + r) % 2 ≡ r
      odd q r l = omega arith

or_digit : (x y : ℕ) → x < 2 → y < 2 → (max x y < 2) × (eqb (max x y) 1 ≡ (eqb x 1 || eqb y 1))
or_digit zero zero l m = (omega arith, refl)
or_digit zero (suc zero) l m = (omega arith, refl)
or_digit zero (suc (suc y)) l m = absurd (omega arith)
or_digit (suc zero) zero l m = (omega arith, refl)
or_digit (suc zero) (suc zero) l m = (omega arith, refl)
or_digit (suc zero) (suc (suc y)) l m = absurd (omega arith)
or_digit (suc (suc x)) y l m = absurd (omega arith)

and_digit : (x y : ℕ) → x < 2 → y < 2 → (min x y < 2) × (eqb (min x y) 1 ≡ (eqb x 1 && eqb y 1))
and_digit zero zero l m = (omega arith, refl)
and_digit zero (suc zero) l m = (omega arith, refl)
and_digit zero (suc (suc y)) l m = absurd (omega arith)
and_digit (suc zero) zero l m = (omega arith, refl)
and_digit (suc zero) (suc zero) l m = (omega arith, refl)
and_digit (suc zero) (suc (suc y)) l m = absurd (omega arith)
and_digit (suc (suc x)) y l m = absurd (omega arith)

-- the digits differ
abbrev apart : Bool → Bool → Bool
apart x y = cond x (not y) y

xor_digit : (x y : ℕ) → x < 2 → y < 2 → (differ x y < 2) × (eqb (differ x y) 1 ≡ apart (eqb x 1) (eqb y 1))
xor_digit zero zero l m = (omega arith, refl)
xor_digit zero (suc zero) l m = (omega arith, refl)
xor_digit zero (suc (suc y)) l m = absurd (omega arith)
xor_digit (suc zero) zero l m = (omega arith, refl)
xor_digit (suc zero) (suc zero) l m = (omega arith, refl)
xor_digit (suc zero) (suc (suc y)) l m = absurd (omega arith)
xor_digit (suc (suc x)) y l m = absurd (omega arith)

pub in_or : (k a b : ℕ) → in_word k (bit_or a b) ≡ (in_word k a || in_word k b)
in_or = by_bits bit_or max (λ x y. x || y) or_shr or_step or_digit

pub in_and : (k a b : ℕ) → in_word k (bit_and a b) ≡ (in_word k a && in_word k b)
in_and = by_bits bit_and min (λ x y. x && y) and_shr and_step and_digit

in_xor : (k a b : ℕ) → in_word k (bit_xor a b) ≡ apart (in_word k a) (in_word k b)
in_xor = by_bits bit_xor differ apart xor_shr xor_step xor_digit

-- a bit is left exactly if it was there and is not taken away
pub in_without : (k a w : ℕ) → in_word k (without a w) ≡ (in_word k a && not (in_word k w))
unfolding without
in_without k a w = in_xor k (bit_or a w) w ∙ ap (λ (x : Bool). apart x (in_word k w)) (in_or k a w) ∙ cases (in_word k a) (in_word k w)
  where
    cases : (x y : Bool) → apart (x || y) y ≡ (x && not y)
    cases true true = refl
    cases true false = refl
    cases false true = refl
    cases false false = refl

pub without_small : (a w : ℕ) → a < 2 ^ 24 → w < 2 ^ 24 → without a w < 2 ^ 24
unfolding without
without_small a w l m = xor_lt 24 (bit_or a w) w (or_lt 24 a w l m) m

-- ---- bits one after the other
pub in_low : (w : ℕ) → in_word 0 w ≡ eqb (w % 2) 1
unfolding in_word
in_low w = ap (λ (x : ℕ). eqb (x % 2) 1) (div-one w)

pub in_suc : (k w : ℕ) → in_word (suc k) w ≡ in_word k (w / 2)
unfolding in_word
in_suc k w = ap (λ (x : ℕ). eqb (x % 2) 1) (ap (λ (x : ℕ). w / x) (pow-suc 2 k ∙ mul_comm (2 ^ k) 2) ∙ sym (div-div-eq-div-mul w 2 (2 ^ k)))

pub in_zero : (k : ℕ) → in_word k 0 ≡ false
in_zero zero = in_low 0
in_zero (suc k) = in_suc k 0 ∙ in_zero k

-- half of a power, and what is left
half_power : (j : ℕ) → 2 ^ suc j / 2 ≡ 2 ^ j
half_power j = rw (pow-suc 2 j) (omega arith)

even_power : (j : ℕ) → 2 ^ suc j % 2 ≡ 0
even_power j = rw (pow-suc 2 j) (omega arith)

pub in_own : (k : ℕ) → in_word k (2 ^ k) ≡ true
in_own zero = in_low 1
in_own (suc k) = in_suc k (2 ^ suc k) ∙ ap (in_word k) (half_power k) ∙ in_own k

pub in_other : (k j : ℕ) → (k ≡ j → ⊥) → in_word k (2 ^ j) ≡ false
in_other zero zero n = absurd (n refl)
in_other zero (suc j) n = in_low (2 ^ suc j) ∙ ap (λ (x : ℕ). eqb x 1) (even_power j)
in_other (suc k) zero n = in_suc k 1 ∙ in_zero k
in_other (suc k) (suc j) n = in_suc k (2 ^ suc j) ∙ ap (in_word k) (half_power j) ∙ in_other k j (λ e. n (ap suc e))

-- the first m bits, all set
ones_have : (m k : ℕ) → k < m → in_word k (2 ^ m - 1) ≡ true
ones_have zero k l = absurd (omega arith)
ones_have (suc m) zero l =
    let p = pow_pos m in
    let e : (2 ^ suc m - 1) % 2 ≡ 1 = rw (pow-suc 2 m) (omega arith) in
    in_low (2 ^ suc m - 1) ∙ ap (λ (x : ℕ). eqb x 1) e
ones_have (suc m) (suc k) l =
    let p = pow_pos m in
    let e : (2 ^ suc m - 1) / 2 ≡ 2 ^ m - 1 = rw (pow-suc 2 m) (omega arith) in
    in_suc k (2 ^ suc m - 1) ∙ ap (in_word k) e ∙ ones_have m k (omega arith)

pub in_all : (k : ℕ) → k < 24 → in_word k all ≡ true
in_all k l = ones_have 24 k l

-- a word of m bits none of which is set
pub no_bits : (m w : ℕ) → w < 2 ^ m → ((k : ℕ) → k < m → in_word k w ≡ false) → w ≡ 0
no_bits zero w l none = omega arith
no_bits (suc m) w l none =
    let less : w < 2 ^ m * 2 = rw (pow-suc 2 m) at l in
    let even : (w % 2 ≡ 1 → ⊥) = eqb-false (w % 2) 1 (sym (in_low w) ∙ none 0 (omega arith)) in
    let rest : w / 2 ≡ 0 = no_bits m (w / 2) (omega arith) (λ k h. sym (in_suc k w) ∙ none (suc k) (omega arith)) in
    omega arith

-- ---- the zeros below the lowest bit that is set
pub zeros_below : (d w j : ℕ) → j < count_trailing_zeros d w → in_word j w ≡ false
unfolding count_trailing_zeros
zeros_below zero w j l = absurd (omega arith)
zeros_below (suc d) w j l = cases (zeros_below d (w / 2)) (w % 2) refl j l
  where
    cases :
        ((i : ℕ) → i < count_trailing_zeros d (w / 2) → in_word i (w / 2) ≡ false) → (r : ℕ) → w % 2 ≡ r → (i : ℕ) → i < under r (count_trailing_zeros d (w / 2)) →
        in_word i w ≡ false
    cases rest zero e zero h = in_low w ∙ ap (λ (x : ℕ). eqb x 1) e
    cases rest zero e (suc i) h = in_suc i w ∙ rest i (omega arith)
    cases rest (suc r) e i h = absurd (omega arith)

pub zeros_end : (d w : ℕ) → 0 < w → w < 2 ^ d → in_word (count_trailing_zeros d w) w ≡ true
unfolding count_trailing_zeros
zeros_end zero w p l = absurd (omega arith)
zeros_end (suc d) w p l = cases (w % 2) refl (λ (e : w % 2 ≡ 0). zeros_end d (w / 2) (omega arith) (half l))
  where
    half : w < 2 ^ suc d → w / 2 < 2 ^ d
    half h = let less : w < 2 ^ d * 2 = rw (pow-suc 2 d) at h in omega arith

    cases : (r : ℕ) → w % 2 ≡ r → (w % 2 ≡ 0 → in_word (count_trailing_zeros d (w / 2)) (w / 2) ≡ true) → in_word (under r (count_trailing_zeros d (w / 2))) w ≡ true
    cases zero e rest = in_suc (count_trailing_zeros d (w / 2)) w ∙ rest e
    cases (suc r) e rest = in_low w ∙ eq-eqb (w % 2) 1 (omega arith)

-- ---- registers and their places among the 24

-- a register that there is
abbrev pub Proper : Register → Type 0
Proper (float r) = r ≤ 7
Proper (general s r) = (s ≤ 1) × (r ≤ 7)

abbrev pub AllProper : List Register → Type 0
AllProper [] = Unit {0}
AllProper (r ∷ rs) = Proper r × AllProper rs

pub rank_small : (r : Register) → Proper r → rank r < 24
rank_small (float r) h = omega arith
rank_small (general s r) h = omega (arith, h.0, h.1)

in_set_0 : (k r : ℕ) → k ≡ 8 + r → r ≤ 7 → register_of k ≡ general 0 r
unfolding register_of
in_set_0 k r e l = rw (le-ltb k 8 (omega arith), lt-ltb k 16 (omega arith)) (ap (general 0) (omega arith))

in_set_1 : (k r : ℕ) → k ≡ 16 + r → register_of k ≡ general 1 r
unfolding register_of
in_set_1 k r e = rw (le-ltb k 8 (omega arith), le-ltb k 16 (omega arith)) (ap (general 1) (omega arith))

pub of_rank : (r : Register) → Proper r → register_of (rank r) ≡ r
unfolding register_of
of_rank (float r) h = rw (lt-ltb r 8 (omega arith))
of_rank (general zero r) h = in_set_0 (rank (general 0 r)) r (omega arith) h.1
of_rank (general (suc zero) r) h = in_set_1 (rank (general 1 r)) r (omega arith)
of_rank (general (suc (suc s)) r) h = absurd (omega (arith, h.0))

-- and back
pub record Ranked (k : ℕ) : Type 0 where
  pub proper : Proper (register_of k)
  pub place : rank (register_of k) ≡ k

pub ranked : (k : ℕ) → k < 24 → Ranked k
unfolding register_of
ranked k l = cases (ltb k 8) (ltb k 16) refl refl
  where
    cases : (a b : Bool) → ltb k 8 ≡ a → ltb k 16 ≡ b → Ranked k
    cases true b e f = let h = ltb-true k 8 e in record { proper = rw e (omega arith); place = rw e }
    cases false true e f =
        let h = ltb-false k 8 e in
        let g = ltb-true k 16 f in
        record { proper = rw (e, f) (omega arith, omega arith); place = rw (e, f) (omega arith) }
    cases false false e f =
        let g = ltb-false k 16 f in
        record { proper = rw (e, f) (omega arith, omega arith); place = rw (e, f) (omega arith) }

-- ---- the word of some registers
pub bits_small : (rs : List Register) → AllProper rs → bits_of rs < 2 ^ 24
unfolding bits_of
bits_small [] h = omega arith
bits_small (r ∷ rs) h = or_lt 24 (2 ^ rank r) (bits_of rs) (pow-lt (rank_small r h.0)) (bits_small rs h.1)

-- its bits are these registers, and no others
pub bits_only : (k : ℕ) (rs : List Register) → AllProper rs → in_word k (bits_of rs) ≡ true → Memᴰ (register_of k) rs
unfolding bits_of
bits_only k [] h e = absurd (never_both e (in_zero k))
bits_only k (r ∷ rs) h e = cases (eqb k (rank r)) refl (either (in_word k (2 ^ rank r)) (in_word k (bits_of rs)) (sym (in_or k (2 ^ rank r) (bits_of rs)) ∙ e)) (bits_only k rs h.1)
  where
    cases :
        (b : Bool) → eqb k (rank r) ≡ b → (in_word k (2 ^ rank r) ≡ true) ⊎ (in_word k (bits_of rs) ≡ true) →
        (in_word k (bits_of rs) ≡ true → Memᴰ (register_of k) rs) → Memᴰ (register_of k) (r ∷ rs)
    cases true same w rest = Memᴰ.head (ap register_of (eqb-true k (rank r) same) ∙ of_rank r h.0)
    cases false same (inl w) rest = absurd (never_both w (in_other k (rank r) (eqb-false k (rank r) same)))
    cases false same (inr w) rest = Memᴰ.tail (rest w)

pub bits_every : (k : ℕ) (rs : List Register) → k < 24 → Memᴰ (register_of k) rs → in_word k (bits_of rs) ≡ true
unfolding bits_of
bits_every k [] l m = absurd (Memᴰ.not-nil m)
bits_every k (r ∷ rs) l m = in_or k (2 ^ rank r) (bits_of rs) ∙ cases (Memᴰ.cases_cons m) (bits_every k rs l)
  where
    cases :
        (register_of k ≡ r) ⊎ Memᴰ (register_of k) rs → (Memᴰ (register_of k) rs → in_word k (bits_of rs) ≡ true) →
        (in_word k (2 ^ rank r) || in_word k (bits_of rs)) ≡ true
    cases (inl e) rest =
        let place : k ≡ rank r = sym (ranked k l).place ∙ ap rank e in
        rw (ap (λ (j : ℕ). in_word k (2 ^ j)) (sym place) ∙ in_own k)
    cases (inr w) rest = rw (rest w) (or-true (in_word k (2 ^ rank r)))
