-- The protected halfwords among several, one more at the front.
use Rattle.std.proofs.Common.{◌≡◌, ℕ, suc, ◌+◌, ◌-◌, ◌<◌, ◌≤◌, false, ◌||◌, ap, arith}
use Rattle.protection.specs.Form.{ProtectList, is_protected}
use Rattle.machine.specs.Check.{any_protected}

-- those from a up to the end
pub any_more : (p : ProtectList) (a end : ℕ) → a < end → any_protected p a (end - a) ≡ (is_protected p a || any_protected p (a + 1) (end - (a + 1)))
unfolding any_protected
any_more p a end h =
    let e : end - a ≡ suc (end - (a + 1)) = omega arith in
    ap (any_protected p a) e

pub any_none : (p : ProtectList) (a end : ℕ) → end ≤ a → any_protected p a (end - a) ≡ false
unfolding any_protected
any_none p a end h =
    let e : end - a ≡ 0 = omega arith in
    ap (any_protected p a) e
