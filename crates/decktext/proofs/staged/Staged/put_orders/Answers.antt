use native.Mathlib.Omega.{arith}
use Rattle.decktext.proofs.Staging.{front_taken}
use Rattle.decktext.proofs.staged.Staged.put_orders.Goals as goal

pub returns : goal.returns
returns c = rw c.copy_from_slice.ensures.after (front_taken c.args.self.now.values c.args.end c.args.cells.now (omega (arith, c.requires.0, c.args.self.now.size)) c.requires.1)
