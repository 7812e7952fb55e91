-- Mnemonics by key: the bytes of a name as one number, with its length; and the table of slots where keys stand.
use Rattle.std.specs.Prelude.{ℕ, ◌+◌, ◌*◌, ◌/◌, ◌%◌, ◌≡◌, List, [], ◌∷◌, cond, length, get_or, eqb}
use Rattle.hexfloat.specs.Answer.{Answer, gives, stops}
use Rattle.decktext.specs.Value.{mnemonics}

-- the number of some bytes, after n
unfoldable pub bytes_from : ℕ → List ℕ → ℕ
bytes_from n [] = n
bytes_from n (b ∷ t) = bytes_from (n * 256 + b) t

unfoldable pub name_key : List ℕ → ℕ
name_key v = bytes_from 0 v * 8 + length v

-- the code by key among some mnemonics, the first of which has the code n
unfoldable pub code_among_keys : List (List ℕ) → ℕ → ℕ → Answer ℕ
code_among_keys [] n k = stops 16
code_among_keys (m ∷ ms) n k = cond (eqb k (name_key m)) (gives n) (code_among_keys ms (n + 1) k)

unfoldable pub code_by_key : ℕ → Answer ℕ
code_by_key k = code_among_keys mnemonics 1 k

-- the slot of a key, by one multiplication: no two mnemonics share one
unfoldable pub slot_of : ℕ → ℕ
slot_of k = k * 1725579 / 0x4000000 % 64

-- what the entry of a slot says of a key: the code of the mnemonic that stands there, or that the key is no mnemonic's
-- (an entry is a mnemonic's key times 64, and the code; 0 where the slot is empty)
abbrev pub code_in_slot : ℕ → ℕ → Answer ℕ
code_in_slot e k = cond (eqb (e / 64) k) (gives (e % 64)) (stops 16)

-- every key finds in its slot what the mnemonics say of it
pub record SlotTable (t : List ℕ) : Type 0 where
  pub size : length t ≡ 64
  pub entry : (k : ℕ) → code_in_slot (get_or t (slot_of k) 0) k ≡ code_by_key k
