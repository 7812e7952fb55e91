-- Checks 1, 2, 3, 6 and 7 (document 01, 'Causes and their numbers').
use Rattle.std.specs.Prelude.{ℕ, zero, suc, ◌+◌, ◌/◌, ◌%◌, Bool, false, ◌&&◌, ◌||◌, ◌==◌, nat_le}
use Rattle.protection.specs.Form.{ProtectList, covers, is_protected}
use Rattle.machine.specs.declared.state.Status.{Status}
use Rattle.machine.specs.Status.{status_formed}

-- 1: deck cells a multiple of 4, and at most 16,384
unfoldable pub deck_sized : ℕ → Bool
deck_sized deck = deck % 4 == 0 && nat_le deck 16384

-- 2: memory and journal not too long, the protect list as long as it should be
unfoldable pub buffers_sized : ProtectList → ℕ → ℕ → Bool
buffers_sized p memory journal = nat_le memory 32768 && (nat_le journal 16384 && covers p memory)

-- 3: condition code, mask and selector of either seat are of the form, and no more records in use than the journal has room for
unfoldable pub state_formed : Status → Status → ℕ → ℕ → Bool
state_formed s other used journal = status_formed s && (status_formed other && nat_le used (journal / 4))

-- 6: no part of `span` halfwords from `at` is past memory's end
unfoldable pub present : ℕ → ℕ → ℕ → Bool
present span at memory = span == 0 || nat_le (at + span) memory

-- 7: any of n halfwords from a on is protected
unfoldable pub any_protected : ProtectList → ℕ → ℕ → Bool
any_protected p a zero = false
any_protected p a (suc n) = is_protected p a || any_protected p (a + 1) n
