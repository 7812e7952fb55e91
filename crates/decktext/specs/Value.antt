-- Values of deck text: mnemonics, decimals, protect digits and words (document 01, 'Deck text'). What is no such value is a 16.
use Rattle.std.specs.Prelude.{Option, Some, None, ℕ, ◌+◌, ◌-◌, ◌*◌, List, [], ◌∷◌, Bool, true, false, cond, not, ◌&&◌, ◌||◌, length, eqb, leb}
use Rattle.hexfloat.specs.Answer.{Answer, gives, stops, provided}
use Rattle.decktext.specs.declared.fault.Fault.{Fault}
use Rattle.decktext.specs.Fault.{fault_number}
use Rattle.decktext.specs.Text.{same}

-- a value of the source: a number, or a 16
abbrev pub says_value : Option ℕ → Answer ℕ
says_value (Some v) = gives v
says_value None = stops (fault_number Fault.Malformed)

-- every byte passes
unfoldable pub all : (ℕ → Bool) → List ℕ → Bool
all f [] = true
all f (b ∷ t) = f b && all f t

abbrev pub is_digit : ℕ → Bool
is_digit b = leb 48 b && leb b 57

-- 0-9 A-F
abbrev pub is_hexadecimal : ℕ → Bool
is_hexadecimal b = is_digit b || (leb 65 b && leb b 70)

abbrev pub digit_of : ℕ → ℕ
digit_of b = cond (leb b 57) (b - 48) (b - 55)

-- the value of a digit, or 16 for a byte that is none
abbrev pub marked_digit : ℕ → ℕ
marked_digit b = cond (is_hexadecimal b) (digit_of b) 16

-- the number of some digits in a base, after n
unfoldable pub number_from : ℕ → ℕ → List ℕ → ℕ
number_from base n [] = n
number_from base n (b ∷ t) = number_from base (n * base + digit_of b) t

-- at least one digit, and no zero before others
abbrev pub plain : List ℕ → Bool
plain [] = false
plain (b ∷ []) = true
plain (b ∷ c ∷ t) = not (eqb b 48)

-- a decimal has no leading zero and is at most 65,535
unfoldable pub decimal_of : List ℕ → Answer ℕ
decimal_of v = provided (plain v && (all is_digit v && leb (number_from 10 0 v) 65535)) 16 (gives (number_from 10 0 v))

-- protect is 0 or 1
unfoldable pub protect_of : List ℕ → Answer ℕ
protect_of v = cond (same v (48 ∷ [])) (gives 0) (cond (same v (49 ∷ [])) (gives 1) (stops 16))

-- a word has four digits
unfoldable pub word_of : List ℕ → Answer ℕ
word_of v = provided (eqb (length v) 4 && all is_hexadecimal v) 16 (gives (number_from 16 0 v))

-- the mnemonics of the table, in the order of their codes from 1 on
abbrev pub mnemonics : List (List ℕ)
mnemonics =
    (76 ∷ 69 ∷ 82 ∷ [])  -- LER
    ∷ (76 ∷ 69 ∷ [])  -- LE
    ∷ (76 ∷ 69 ∷ 68 ∷ [])  -- LED
    ∷ (76 ∷ 69 ∷ 67 ∷ 82 ∷ [])  -- LECR
    ∷ (67 ∷ 69 ∷ 82 ∷ [])  -- CER
    ∷ (67 ∷ 69 ∷ [])  -- CE
    ∷ (67 ∷ 69 ∷ 68 ∷ 82 ∷ [])  -- CEDR
    ∷ (67 ∷ 69 ∷ 68 ∷ [])  -- CED
    ∷ (67 ∷ 86 ∷ 70 ∷ 88 ∷ [])  -- CVFX
    ∷ (67 ∷ 86 ∷ 70 ∷ 76 ∷ [])  -- CVFL
    ∷ (68 ∷ 69 ∷ 82 ∷ [])  -- DER
    ∷ (68 ∷ 69 ∷ [])  -- DE
    ∷ (68 ∷ 69 ∷ 68 ∷ 82 ∷ [])  -- DEDR
    ∷ (68 ∷ 69 ∷ 68 ∷ [])  -- DED
    ∷ (83 ∷ 84 ∷ 69 ∷ [])  -- STE
    ∷ (83 ∷ 84 ∷ 69 ∷ 68 ∷ [])  -- STED
    ∷ (76 ∷ [])  -- L
    ∷ (83 ∷ 84 ∷ [])  -- ST
    ∷ (85 ∷ 77 ∷ [])  -- UM
    ∷ (74 ∷ 67 ∷ [])  -- JC
    ∷ (74 ∷ 78 ∷ [])  -- JN
    ∷ (72 ∷ 65 ∷ 76 ∷ 84 ∷ [])  -- HALT
    ∷ (65 ∷ 69 ∷ 82 ∷ [])  -- AER
    ∷ (65 ∷ 69 ∷ [])  -- AE
    ∷ (83 ∷ 69 ∷ 82 ∷ [])  -- SER
    ∷ (83 ∷ 69 ∷ [])  -- SE
    ∷ (65 ∷ 69 ∷ 68 ∷ 82 ∷ [])  -- AEDR
    ∷ (65 ∷ 69 ∷ 68 ∷ [])  -- AED
    ∷ (83 ∷ 69 ∷ 68 ∷ 82 ∷ [])  -- SEDR
    ∷ (83 ∷ 69 ∷ 68 ∷ [])  -- SED
    ∷ (77 ∷ 69 ∷ 82 ∷ [])  -- MER
    ∷ (77 ∷ 69 ∷ [])  -- ME
    ∷ (77 ∷ 69 ∷ 68 ∷ 82 ∷ [])  -- MEDR
    ∷ (77 ∷ 69 ∷ 68 ∷ [])  -- MED
    ∷ (83 ∷ 69 ∷ 84 ∷ [])  -- SET
    ∷ []

-- the code of a name among some mnemonics, the first of which has the code n
unfoldable pub code_among : List (List ℕ) → ℕ → List ℕ → Answer ℕ
code_among [] n v = stops 16
code_among (m ∷ ms) n v = cond (same v m) (gives n) (code_among ms (n + 1) v)

unfoldable pub mnemonic_code : List ℕ → Answer ℕ
mnemonic_code v = code_among mnemonics 1 v
