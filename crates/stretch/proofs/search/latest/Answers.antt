-- `stretch::search::latest` meets its contract. The loop's invariant: every order above `before` was tried, and none stops alike. Assumes nothing.
use Prim.Native.Nat.{◌+◌, ◌-◌}
use mathlib.Core.Path.{◌≡◌}
use native.Mathlib.Omega.{arith}
use borrow.Author.Rules.{rules}
use Rattle.stretch.proofs.Searching.{sought_on, sought_at}
use Rattle.stretch.proofs.search.latest.Goals as goal

pub returns-then-stops_alike : goal.returns-then-stops_alike
returns-then-stops_alike c =
    let e : c.loop-before.before - 1 + 1 ≡ c.loop-before.before = omega (arith, c.loop-before-test.true) in
    sought_at _ _ _ _ _ _ _ _ (record { halfword = λ i. search rules }) _ _ _ c.loop-before.invariant.1 e
    c.loop-before-test.true c.if-stops_alike.true c.stops_alike.ensures

pub loop-before-preserved : goal.loop-before-preserved
loop-before-preserved c =
    let e : c.loop-before.before - 1 + 1 ≡ c.loop-before.before = omega (arith, c.loop-before-test.true) in (
      search rules,
      sought_on _ _ _ _ _ _ _ _ (record { halfword = λ i. search rules }) _ _ _ c.loop-before.invariant.1
          (omega (arith, c.loop-before-test.true)) c.if-stops_alike.false (rw e at c.stops_alike.ensures),
      search rules,
      search rules,
    )
