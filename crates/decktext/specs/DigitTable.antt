-- Digits by table (document 02, Job 2: a constant table of 256 entries, one per byte value, with a mark for bytes that are no digit).
use Rattle.std.specs.Prelude.{ℕ, ◌<◌, ◌≡◌, List, length, get_or}
use Rattle.decktext.specs.Value.{marked_digit}

-- each byte has its entry, which is the value of the digit or the mark
pub record DigitTable (t : List ℕ) : Type 0 where
  pub size : length t ≡ 256
  pub entry : (b : ℕ) → b < 256 → get_or t b 0 ≡ marked_digit b
