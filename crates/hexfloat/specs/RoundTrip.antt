-- A word to float and back: CVFL, then CVFX of what it gave (document 02, Job 9). What comes back is said of the word alone.
use Rattle.std.specs.Prelude.{ℕ, ◌-◌, ◌*◌, ◌/◌, ◌%◌, ◌^◌, ◌<◌, ◌≡◌}
use Rattle.hexfloat.specs.Normal.{digits}
use Rattle.hexfloat.specs.Convert.{signed_word, word_magnitude}

-- n cut to its first d hexadecimal digits, counted from the first that is not zero: zeros stand in the place of those after them
unfoldable pub cut_to : ℕ → ℕ → ℕ
cut_to d n = n / 16 ^ (digits n - d) * 16 ^ (digits n - d)

-- the digits of n after its first d are zero; place 0 is the last digit's
abbrev pub ZerosAfter : ℕ → ℕ → Type 0
ZerosAfter d n = (i : ℕ) → i < digits n - d → n / 16 ^ i % 16 ≡ 0

-- the word with its magnitude cut to six digits, and its sign
unfoldable pub homed : ℕ → ℕ
homed w = signed_word (w / 2 ^ 31) (cut_to 6 (word_magnitude w))
