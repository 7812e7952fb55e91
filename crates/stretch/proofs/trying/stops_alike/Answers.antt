-- `stretch::trying::stops_alike` meets its contract. Assumes nothing.
use Rattle.stretch.proofs.Searching.{tried_elsewhere, tried_there}
use Rattle.stretch.proofs.trying.stops_alike.Goals as goal

pub returns-then-ran-before : goal.returns-then-ran-before
returns-then-ran-before c = tried_elsewhere _ _ _ _ _ _ _ _ _ c.pointed-start.ensures c.run_and_return-ran.ensures c.if-ran-before.true

pub returns : goal.returns
returns c = tried_there _ _ _ _ _ _ _ _ _ c.pointed-start.ensures c.run_and_return-ran.ensures c.if-ran-before.false c.number.ensures
