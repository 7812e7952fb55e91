-- `rank_signed` meets its contract: each way through the signs has its law.
use mathlib.Core.Path.{sym, ◌∙◌}
use Prim.Native.Nat.{◌+◌}
use native.Mathlib.Omega.{arith}
use Rattle.hexfloat.proofs.Compared.{first_above, first_below}
use Rattle.hexfloat.proofs.Keys.{ranks_above, ranks_below}
use Rattle.hexfloat.proofs.comparison.rank_signed.Goals as goal

pub returns-else-m-eq0 : goal.returns-else-m-eq0
returns-else-m-eq0 c =
    let a = c.args in
    sym (first_above a.s a.m a.t a.n c.if-s-eq0.true c.if-t-eq0.false ∙ ranks_above (a.m + a.n) 0 (omega (arith, c.if-m-eq0.false)))

pub returns-else-m-eq0-2 : goal.returns-else-m-eq0-2
returns-else-m-eq0-2 c =
    let a = c.args in
    sym (first_below a.s a.m a.t a.n c.if-s-eq0.false c.if-t-eq0-2.true ∙ ranks_below 0 (a.m + a.n) (omega (arith, c.if-m-eq0-2.false)))
