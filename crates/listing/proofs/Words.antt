-- A word's digits from the left: one digit more is the next four bits.
use mathlib.Core.Path.{◌≡◌, refl, sym, ap, ap₂, ◌∙◌}
use mathlib.Core.List.{List, [], ◌∷◌, ◌++◌}
use Prim.Native.Nat.{ℕ, zero, suc, ◌+◌, ◌-◌, ◌*◌, ◌/◌, ◌%◌, ◌^◌, ◌<◌}
use native.Mathlib.Nat.{suc-mul, pow-suc, div-div-eq-div-mul}
use native.Mathlib.Numerals.{add-one}
use lib.ListN.{length, get_or, length-append}
use native.Mathlib.Omega.{arith}
use Rattle.hexfloat.proofs.Digits.{four_bits}
use Rattle.orders.specs.General.{general_at}
use Rattle.listing.specs.Digits.{digit, hexadecimal}
use Rattle.listing.specs.Listing.{register_line, register_lines}

pub next_digit : (w i : ℕ) → i < 8 → hexadecimal (i + 1) (w / 16 ^ (8 - (i + 1))) ≡ hexadecimal i (w / 16 ^ (8 - i)) ++ (digit (w / 2 ^ (28 - 4 * i) % 16) ∷ [])
unfolding hexadecimal
next_digit w i h =
    rw (add-one i)
    (ap₂ (λ (n b : ℕ). hexadecimal i n ++ (digit (b % 16) ∷ []))
    (div-div-eq-div-mul w (16 ^ (8 - suc i)) 16 ∙ ap (λ (x : ℕ). w / x) (sym (pow-suc 16 (8 - suc i)) ∙ ap (λ (k : ℕ). 16 ^ k) up))
    (ap (λ (x : ℕ). w / x) (sym (ap (λ (k : ℕ). 2 ^ k) bits ∙ four_bits (8 - suc i)))))
  where
    up : suc (8 - suc i) ≡ 8 - i
    up = omega arith

    bits : 28 - 4 * i ≡ 4 * (8 - suc i)
    bits = omega arith

pub word-length : (k n : ℕ) → length (hexadecimal k n) ≡ k
unfolding hexadecimal
word-length zero n = refl
word-length (suc k) n = length-append (hexadecimal k (n / 16)) (digit (n % 16) ∷ []) ∙ ap (λ (x : ℕ). x + 1) (word-length k (n / 16)) ∙ add-one k

-- a register's line has 20 bytes
pub lines_length : (k : ℕ) (f g : List ℕ) (s : ℕ) → length (register_lines k f g s) ≡ k * 20
unfolding register_lines
lines_length zero f g s = refl
lines_length (suc k) f g s =
    length-append (register_lines k f g s) (register_line k (get_or f k 0) (general_at g s k))
    ∙ ap₂ (λ (x y : ℕ). x + y) (lines_length k f g s) line_length
    ∙ sym (suc-mul k 20)
  where
    line_length : length (register_line k (get_or f k 0) (general_at g s k)) ≡ 20
    line_length = simp (length-append, word-length)
