-- `chart::block::fill_block` meets its contract: what is left of the orders, written from here, is all of them from the start. Assumes nothing.
use Prim.Native.Nat.{◌-◌}
use native.Mathlib.Omega.{arith}
use Rattle.chart.proofs.Left.{place_small, block_on, block_end}
use Rattle.chart.proofs.block.fill_block.Goals as goal

pub order_with-requires : goal.order_with-requires
order_with-requires c =
    let turn = c in
    place_small _ _ _ _ _ _ turn.loop-left.invariant turn.loop-left-test.true turn.requires.small

pub next_pair-p-requires : goal.next_pair-p-requires
next_pair-p-requires c =
    let turn = c in
    let inv = turn.loop-left.invariant in
    (inv.inside, (place_small _ _ _ _ _ _ inv turn.loop-left-test.true turn.requires.small).r1)

pub loop-left-preserved : goal.loop-left-preserved
loop-left-preserved c =
    let turn = c in
    let k = c.fitting-k in
    let q = c.next_pair-p in
    let on = block_on _ _ _ _ _ _ turn.loop-left.invariant turn.loop-left-test.true q.result k.result k.ensures q.ensures.0 q.ensures.1 in
    rw (c.fill_series-done.ensures, c.order_with.ensures) on

pub returns : goal.returns
returns c = block_end _ _ _ _ _ _ (omega (arith, c.loop-left-test.false)) c.loop-left.invariant
