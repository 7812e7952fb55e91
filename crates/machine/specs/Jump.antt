-- JC and JN (document 01, 'Orders', codes 20 and 21).
use Rattle.std.specs.Prelude.{ℕ, ◌+◌, ◌/◌, ◌%◌, Bool, cond, not, ◌==◌}
use Rattle.machine.specs.declared.change.Change.{Change}
use Rattle.machine.specs.declared.state.Status.{Status}
use Rattle.machine.specs.declared.verdict.Effect.{Effect}
use Rattle.machine.specs.Status.{status}

-- the bit for the condition code is set among JC's three: 4 for 0, 2 for 1, 1 for 3
unfoldable pub jumps : ℕ → ℕ → Bool
jumps bits condition = cond (condition == 0) (bits / 4) (cond (condition == 1) (bits / 2) bits) % 2 == 1

-- to order `at`, or on by one; condition code, mask and selector stay
abbrev pub jumped_to : Status → Bool → ℕ → Status
jumped_to s jump at = status s.condition s.mask (cond jump at (s.pointer + 1)) s.selector

unfoldable pub jumped : Status → ℕ → ℕ → Effect
jumped s bits at = record { change = Change.Nothing; status = jumped_to s (jumps bits s.condition) at }

-- one less, 0 becoming FFFFFFFF
abbrev pub one_less : ℕ → ℕ
one_less w = (w + 0xFFFFFFFF) % 0x100000000

-- G r, which holds w, goes down; to `at` if not 0 after
unfoldable pub counted_down : Status → ℕ → ℕ → ℕ → Effect
counted_down s r w at = record {
  change = Change.General r (one_less w);
  status = jumped_to s (not (one_less w == 0)) at;
}
