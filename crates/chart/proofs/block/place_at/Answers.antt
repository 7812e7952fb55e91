-- `chart::block::place_at` meets its contract: a block that has a place i has an r2 and an `at`. Assumes nothing.
use Prim.Native.Nat.{◌/◌}
use native.Mathlib.Nat.{mod-lt}
use Rattle.chart.proofs.Places.{some_r2, some_at, place_again}
use Rattle.chart.proofs.block.place_at.Goals as goal

pub returns : goal.returns
returns c =
    let s = c in
    let b = s.args.b in
    let i = s.args.i in
    (place_again b i, record { r2 = mod-lt (i / b.ats) (some_r2 b i s.requires); at = mod-lt i (some_at b i s.requires) })
