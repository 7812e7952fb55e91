-- A listing's text and its free bytes; text that grows, as the private functions of the crate hand it to each other.
use Rattle.std.specs.Prelude.{ℕ, ◌+◌, ◌-◌, ◌≤◌, ◌≡◌, List, ◌++◌, length, take, drop}
use Rattle.listing.specs.declared.text.Text.{Text}

-- the bytes in use
abbrev pub text_of : {N : ℕ} → Text N → List ℕ
text_of t = take t.length t.bytes

-- the bytes that are not in use
abbrev pub rest_of : {N : ℕ} → Text N → List ℕ
rest_of t = drop t.length t.bytes

-- r is the text xs. The bytes of r past its length are free: any bytes, as many as are left of its room.
pub record Holds {N : ℕ} (r : Text N) (xs : List ℕ) : Type 0 where
  pub text : text_of r ≡ xs
  pub within : r.length ≤ N
  pub free : length (rest_of r) ≡ N - r.length

-- r is t with xs after it
pub record Appended {N : ℕ} (t r : Text N) (xs : List ℕ) : Type 0 where
  pub text : text_of r ≡ text_of t ++ xs
  pub size : r.length ≡ t.length + length xs
