use Rattle.listing.proofs.Decimals.{fewest}
use Rattle.listing.proofs.text.Text.push_decimal.Goals as goal

pub returns-clause-appended : goal.returns-clause-appended
returns-clause-appended g c = rw (c.decimal-k.ensures.digits, fewest c.args.n c.decimal-k.result c.decimal-k.ensures.len) at c.push_bytes.ensures
