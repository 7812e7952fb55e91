-- What the machine needs of the arithmetic: every condition code that it gives is 0, 1 or 3, and its stops are 8 to 11.
use Rattle.std.proofs.Common.{◌≡◌, ℕ, true, refl}
use Rattle.hexfloat.specs.Condition.{IsCondition, zero, greater, less}
use Rattle.machine.specs.Status.{condition_formed}

-- in check 3's terms
pub formed : {c : ℕ} → IsCondition c → condition_formed c ≡ true
unfolding condition_formed
formed zero = refl
formed greater = refl
formed less = refl
