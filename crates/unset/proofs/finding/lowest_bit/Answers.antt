-- `unset::finding::lowest_bit` meets its contract: by the zeros below the lowest bit.
-- Assumes nothing.
use Rattle.unset.proofs.Lowest.{lowest_bit}
use Rattle.unset.proofs.finding.lowest_bit.Goals as goal

pub returns : goal.returns
returns c = lowest_bit c.args.bits c.requires.0 c.requires.1
