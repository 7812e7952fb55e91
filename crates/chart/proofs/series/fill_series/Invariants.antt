use Prim.Native.Nat.{◌-◌, ◌+◌}
use lib.ListN.{length}
use Rattle.chart.specs.Block.{series}
use Rattle.chart.specs.Chart.{order}
use Rattle.chart.specs.Writing.{writing, put}
use Rattle.chart.proofs.Left.{SeriesLeft}
use Rattle.chart.proofs.series.fill_series.Given as goal

abbrev pub invariant-loop-at : goal.invariant-loop-at
invariant-loop-at l =
    SeriesLeft (put (series l.first l.m) (writing l.initial.cells l.count)) (length l.initial.cells) (order l.first.code l.first.r1 l.first.r2 l.at) (l.first.at + l.m - l.at) (writing l.cells l.done)
