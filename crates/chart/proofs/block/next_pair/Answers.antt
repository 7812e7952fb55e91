-- `chart::block::next_pair` meets its contract. Assumes nothing.
use native.Mathlib.Omega.{arith}
use Rattle.chart.proofs.Places.{next_r2, next_r1}
use Rattle.chart.proofs.block.next_pair.Goals as goal

pub returns-then-r2-b : goal.returns-then-r2-b
returns-then-r2-b c =
    let s = c in
    (next_r2 s.args.b s.args.p s.requires.0, record { r2 = omega (arith, c.if-r2-b.true); at = omega (arith, s.requires.0.at) })

pub returns : goal.returns
returns c =
    let s = c in
    (next_r1 s.args.b s.args.p s.requires.0 (omega (arith, c.if-r2-b.false)), record { r2 = omega (arith, s.requires.0.r2); at = omega (arith, s.requires.0.at) })
