-- Answers of the reader: every fault of a value is a 16.
use Prim.Native.Nat.{ℕ, ◌+◌, ◌<◌}
use mathlib.Core.Path.{◌≡◌, refl}
use mathlib.Core.Logic.{◌⊎◌, inl}
use mathlib.Core.Bool.{Bool, true, false, cond, ◌&&◌}
use mathlib.Core.List.{List, [], ◌∷◌}
use native.Mathlib.Omega.{arith}
use lib.Dec.{leb, eqb}
use lib.ListN.{length}
use Rattle.hexfloat.specs.Answer.{Answer, gives, stops}
use Rattle.hexfloat.proofs.Answers.{gives_inj, never, StopsBy, cond_by, provided_by}
use Rattle.decktext.specs.Text.{same}
use Rattle.decktext.specs.Value.{all, is_digit, is_hexadecimal, plain, number_from, code_among, mnemonic_code, decimal_of, protect_of, word_of, mnemonics}

abbrev pub Is16 : ℕ → Type 0
Is16 n = n ≡ 16

abbrev pub Is16or17 : ℕ → Type 0
Is16or17 n = (n ≡ 16) ⊎ (n ≡ 17)

abbrev pub Only16 : {A : Type 0} → Answer A → Type 0
Only16 a = StopsBy Is16 a

pub only_either : {A : Type 0} (a : Answer A) → Only16 a → StopsBy Is16or17 a
only_either (gives x) o = tt
only_either (stops n) o = inl o

pub only_refused : {A : Type 0} (a : Answer A) → Only16 a → ((x : A) → a ≡ gives x → ⊥) → a ≡ stops 16
only_refused (gives x) o h = absurd (h x refl)
only_refused (stops n) o h = rw o

only_among : (ms : List (List ℕ)) (n : ℕ) (v : List ℕ) → Only16 (code_among ms n v)
unfolding code_among
only_among [] n v = refl
only_among (m ∷ ms) n v = cond_by Is16 (same v m) (gives n) (code_among ms (n + 1) v) tt (only_among ms (n + 1) v)

pub only_code : (v : List ℕ) → Only16 (mnemonic_code v)
unfolding mnemonic_code
only_code v = only_among mnemonics 1 v

pub only_decimal : (v : List ℕ) → Only16 (decimal_of v)
unfolding decimal_of
only_decimal v = provided_by Is16 (plain v && (all is_digit v && leb (number_from 10 0 v) 65535)) 16 (gives (number_from 10 0 v)) refl tt

pub only_protect : (v : List ℕ) → Only16 (protect_of v)
unfolding protect_of
only_protect v = cond_by Is16 (same v (48 ∷ [])) (gives 0) (cond (same v (49 ∷ [])) (gives 1) (stops 16)) tt (cond_by Is16 (same v (49 ∷ [])) (gives 1) (stops 16) tt refl)

small_by : (p q : Bool) (x : ℕ) → cond p (gives 0) (cond q (gives 1) (stops 16)) ≡ gives x → x < 2
small_by true q x h = let e = gives_inj h in omega arith
small_by false true x h = let e = gives_inj h in omega arith
small_by false false x h = never h

-- a protect digit is 0 or 1
pub protect_small : (v : List ℕ) (x : ℕ) → protect_of v ≡ gives x → x < 2
unfolding protect_of
protect_small v x h = small_by (same v (48 ∷ [])) (same v (49 ∷ [])) x h

pub only_word : (v : List ℕ) → Only16 (word_of v)
unfolding word_of
only_word v = provided_by Is16 (eqb (length v) 4 && all is_hexadecimal v) 16 (gives (number_from 16 0 v)) refl tt
