-- `stretch::trying::run_and_return` meets its contract: memory's type says that a halfword has 16 bits. Assumes nothing.
use borrow.Author.Rules.{rules}
use Rattle.stretch.proofs.Searching.{came_to}
use Rattle.stretch.proofs.trying.run_and_return.Goals as goal

pub returns : goal.returns
returns c =
    came_to _ _ _ _ _ _ _ (record { halfword = λ i. search rules }) c.run-ran.ensures c.restore.ensures
