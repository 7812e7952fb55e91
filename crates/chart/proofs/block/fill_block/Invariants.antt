use lib.ListN.{length}
use Rattle.chart.specs.Block.{orders_in}
use Rattle.chart.specs.Writing.{writing, put}
use Rattle.chart.proofs.Left.{BlockLeft}
use Rattle.chart.proofs.block.fill_block.Given as goal

abbrev pub invariant-loop-left : goal.invariant-loop-left
invariant-loop-left l =
    BlockLeft (put (orders_in l.b l.i l.m) (writing l.initial.cells l.count)) (length l.initial.cells) l.b l.p l.left (writing l.cells l.done)

abbrev pub decreases-loop-left : goal.decreases-loop-left
decreases-loop-left l = l.left
