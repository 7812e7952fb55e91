-- `chart::listing::with_block` meets its contract: the block is skipped, has no room, or has a first order to write. Assumes nothing.
use native.Mathlib.Omega.{arith}
use Rattle.chart.specs.Writing.{put}
use Rattle.chart.proofs.Shown.{shown_skipped, shown_full, shown_some}
use Rattle.chart.proofs.listing.with_block.Goals as goal

pub returns-then-n-skip : goal.returns-then-n-skip
unfolding put
returns-then-n-skip c =
    let s = c in
    let n = c.size-n.ensures in
    record {
      total = omega (arith, n);
      skip = omega (arith, n);
      put = rw (shown_skipped s.args.b s.args.room s.args.s (omega (arith, n, c.if-n-skip.true)));
    }

pub returns-then-written-room : goal.returns-then-written-room
unfolding put
returns-then-written-room c =
    let s = c in
    let n = c.size-n.ensures in
    record {
      total = omega (arith, n);
      skip = omega (arith, n, c.if-n-skip.false);
      put = rw (shown_full s.args.b s.args.room s.args.s (omega (arith, c.if-written-room.true)));
    }

pub returns : goal.returns
returns c =
    let s = c in
    let n = c.size-n.ensures in
    let left = c.if-n-skip.false in
    let m = c.fitting-m.ensures in
    record {
      total = omega (arith, n);
      skip = omega (arith, n, left);
      put = rw (shown_some s.args.b s.args.room s.args.s (omega (arith, n, left)), ← n, ← m) c.fill_block.ensures;
    }
