-- The condition code, the underflow mask, the order pointer and the selector of general registers, which word 0 of a record saves (document 01, 'State',
-- 'Journal and back steps'; document 02, Job 8).
use Rattle.std.specs.Prelude.{ℕ, ◌+◌, ◌*◌, ◌/◌, ◌%◌, ◌^◌, ◌<◌, Bool, ◌&&◌, ◌||◌, ◌==◌, nat_le}
use Rattle.machine.specs.declared.state.Status.{Status}

abbrev pub status : ℕ → ℕ → ℕ → ℕ → Status
status c m p s = record { condition = c; mask = m; pointer = p; selector = s }

-- a condition code is 0, 1 or 3
unfoldable pub condition_formed : ℕ → Bool
condition_formed c = c == 0 || (c == 1 || c == 3)

-- the part of check 3 that speaks of them
unfoldable pub status_formed : Status → Bool
status_formed s = condition_formed s.condition && (nat_le s.mask 1 && nat_le s.selector 1)

-- pointer + 2^16 · CC + 2^18 · mask + 2^22 · selector
unfoldable pub packed : Status → ℕ
packed s = s.pointer + 2 ^ 16 * s.condition + 2 ^ 18 * s.mask + 2 ^ 22 * s.selector

-- the same taken out of word 0, in which the kind stands in bits 19 to 21
unfoldable pub unpacked : ℕ → Status
unpacked w = status (w / 2 ^ 16 % 4) (w / 2 ^ 18 % 2) (w % 2 ^ 16) (w / 2 ^ 22 % 2)

-- what check 3 leaves known where a record is written: two bits, one bit and one bit
pub record Packable (s : Status) : Type 0 where
  pub condition : s.condition < 4
  pub mask : s.mask < 2
  pub selector : s.selector < 2
