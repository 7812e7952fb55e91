-- `chart::series::fill_series` meets its contract: what is left of the series, written from here, is the whole series from the start. Assumes nothing.
use Prim.Native.Nat.{◌+◌, ◌-◌}
use mathlib.Core.Path.{sym, subst}
use native.Mathlib.Omega.{arith}
use lib.ListN.{length}
use Rattle.chart.specs.Block.{series}
use Rattle.chart.specs.Chart.{order}
use Rattle.chart.specs.Writing.{Writing, writing, put}
use Rattle.chart.proofs.Left.{SeriesLeft, series_on, series_end}
use Rattle.chart.proofs.series.fill_series.Goals as goal

pub loop-at-preserved : goal.loop-at-preserved
loop-at-preserved c =
    let entry = c in
    let at = entry.loop-at in
    let a = entry.args in
    let goal = put (series a.first a.m) (writing a.cells.now a.count) in
    let on = series_on goal (length a.cells.now) a.first.code a.first.r1 a.first.r2 at.at (a.first.at + a.m) (writing at.cells at.done) entry.loop-at-test.true at.invariant in
    subst (λ (s : Writing). SeriesLeft goal (length a.cells.now) (order a.first.code a.first.r1 a.first.r2 (at.at + 1)) (a.first.at + a.m - (at.at + 1)) s) (sym c.put_order-done.ensures) on

pub returns : goal.returns
returns c =
    let at = c.loop-at in
    let a = c.args in
    series_end _ _ _ _ _ (omega (arith, c.loop-at-test.false)) at.invariant
