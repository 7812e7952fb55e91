use Prim.Native.Nat.{◌/◌}
use lib.ListN.{length}
use Rattle.chart.specs.Piece.{piece}
use Rattle.chart.specs.Writing.{writing, put}
use Rattle.chart.proofs.Charting.{ChartLeft}
use Rattle.chart.proofs.listing.list.Given as goal

abbrev pub invariant-loop-code : goal.invariant-loop-code
invariant-loop-code l =
    ChartLeft (put (piece l.n l.rank (length l.initial.cells / 4)) (writing l.initial.cells 0)) l.n (length l.initial.cells) (length l.initial.cells / 4) l.code l.cells l.s
