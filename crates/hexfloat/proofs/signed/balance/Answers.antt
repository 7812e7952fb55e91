-- `balance` meets its contract: the smaller part leaves nothing of itself.
use mathlib.Core.Path.{◌≡◌}
use Prim.Native.Nat.{ℕ, ◌+◌, ◌-◌, ◌≤◌, ◌<◌}
use native.Mathlib.Omega.{arith}
use borrow.Author.Tests.{lt-ltb, le-ltb}
use Rattle.hexfloat.specs.Add.{signed}
use Rattle.hexfloat.proofs.signed.balance.Goals as goal

-- of two numbers one less the other is 0
over : (p n : ℕ) → n ≤ p → p - n ≡ p - n + (n - p)
over p n h = omega arith

under : (p n : ℕ) → p < n → n - p ≡ p - n + (n - p)
under p n h = omega arith

pub returns-then-p-n : goal.returns-then-p-n
unfolding signed
returns-then-p-n c = rw (lt-ltb _ _ c.if-p-n.true) (λ i. record { sign = 1; magnitude = under _ _ c.if-p-n.true i })

pub returns : goal.returns
unfolding signed
returns c = rw (le-ltb _ _ c.if-p-n.false) (λ i. record { sign = 0; magnitude = over _ _ c.if-p-n.false i })
