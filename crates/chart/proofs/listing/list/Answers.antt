-- `chart::listing::list` meets its contract: what is left of the chart, written from here, is the piece that is asked for. Assumes nothing.
use Prim.Native.Nat.{◌/◌}
use mathlib.Core.Path.{◌≡◌}
use native.Mathlib.Omega.{arith}
use borrow.Author.Tests.{ne_eqb}
use lib.ListN.{length}
use Rattle.chart.specs.Piece.{chart_into}
use Rattle.chart.proofs.Charting.{chart-start, chart_fits, chart_on, chart-answer}
use Rattle.chart.proofs.listing.list.Goals as goal

pub returns-then-cells-ne0 : goal.returns-then-cells-ne0
unfolding chart_into
returns-then-cells-ne0 c = rw (ne_eqb _ 0 c.if-cells-ne0.true)

pub loop-code-init : goal.loop-code-init
loop-code-init c =
    let a = c.args in
    chart-start a.n (omega arith) a.rank (length a.cells.now / 4) a.cells.now

pub with_block-s-requires : goal.with_block-s-requires
with_block-s-requires c =
    let at = c.loop-code in
    let a = c.args in
    rw c.block_of.ensures (chart_fits a.n (omega arith) _ _ _ at.code c.loop-code-test.true at.cells at.s at.invariant (omega arith))

pub loop-code-preserved : goal.loop-code-preserved
loop-code-preserved c =
    let at = c.loop-code in
    let a = c.args in
    let more = rw c.block_of.ensures at c.with_block-s.ensures in
    chart_on a.n (omega arith) _ _ _ at.code c.loop-code-test.true at.cells at.s at.invariant _ _ more

pub returns : goal.returns
returns c =
    let at = c.loop-code in
    let a = c.args in
    let e : at.code ≡ 36 = omega (arith, c.loop-code-test.false) in
    chart-answer a.n a.rank a.cells.now at.cells at.s (omega arith) (rw e at at.invariant)
