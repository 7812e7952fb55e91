-- What the walk stages until the whole text is known to be good: the values of the orders, four each from the front, then those of the halfwords,
-- three each; and the buffers that they stand for.
use Rattle.std.specs.Prelude.{ℕ, zero, suc, ◌+◌, ◌*◌, ◌≤◌, ◌<◌, List, get_or, set}
use Rattle.protection.specs.Form.{ProtectList, with_mark}
use Rattle.decktext.specs.Format.{Halfword}
use Rattle.decktext.specs.Read.{Buffers, buffers, Given, headed, ordered, parted, stored, with_cells}

-- the place after n orders and k halfwords
abbrev pub place_after : ℕ → ℕ → ℕ
place_after n k = n * 4 + k * 3

-- how many values a line has that gives this
abbrev pub values_in : Given → ℕ
values_in headed = 0
values_in (ordered o) = 4
values_in parted = 0
values_in (stored h) = 3

-- how many halfwords there are with what a line gives
abbrev pub halfwords_with : Given → ℕ → ℕ
halfwords_with headed k = k
halfwords_with (ordered o) k = k
halfwords_with parted k = k
halfwords_with (stored h) k = k + 1

abbrev pub with_halfword : ℕ → Halfword → List ℕ → List ℕ
with_halfword i h s = set (set (set s i h.at) (i + 1) h.protect) (i + 2) h.word

-- what a line gives is staged; n orders and k halfwords came before
unfoldable pub staged_with : Given → ℕ → ℕ → List ℕ → List ℕ
staged_with headed n k s = s
staged_with (ordered o) n k s = with_cells n o s
staged_with parted n k s = s
staged_with (stored h) n k s = with_halfword (place_after n k) h s

-- the first m values in the front of a buffer
unfoldable pub with_front : List ℕ → ℕ → List ℕ → List ℕ
with_front s zero c = c
with_front s (suc m) c = set (with_front s m c) m (get_or s m 0)

-- the halfword that is staged at a place
abbrev pub halfword_at : List ℕ → ℕ → Halfword
halfword_at s i = record { at = get_or s i 0; protect = get_or s (i + 1) 0; word = get_or s (i + 2) 0 }

-- a buffer with each of k halfwords put into it in turn; n orders came before
unfoldable pub with_each : {W : Type 0} → (Halfword → W → W) → List ℕ → ℕ → ℕ → W → W
with_each put s n zero w = w
with_each put s n (suc k) w = put (halfword_at s (place_after n k)) (with_each put s n k w)

-- memory with the words, and the protect list with the protect digits
abbrev pub put_word : Halfword → List ℕ → List ℕ
put_word h m = set m h.at h.word

abbrev pub put_mark : Halfword → ProtectList → ProtectList
put_mark h p = with_mark h.at h.protect p

abbrev pub with_words : List ℕ → ℕ → ℕ → List ℕ → List ℕ
with_words s n k m = with_each put_word s n k m

abbrev pub with_protects : List ℕ → ℕ → ℕ → ProtectList → ProtectList
with_protects s n k p = with_each put_mark s n k p

-- the buffers that n orders and k halfwords stand for
abbrev pub replayed : List ℕ → ℕ → ℕ → Buffers → Buffers
replayed s n k b = buffers (with_front s (n * 4) b.cells) (with_words s n k b.memory) (with_protects s n k b.protect)

-- the halfwords are inside the staging array, land inside memory, and have a protect digit
pub record Landing (s : List ℕ) (n k memory : ℕ) : Type 0 where
  pub inside : place_after n k ≤ 16384
  pub word : (j : ℕ) → j < k → get_or s (place_after n j) 0 < memory
  pub digit : (j : ℕ) → j < k → get_or s (place_after n j + 1) 0 < 2
