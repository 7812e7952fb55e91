use lib.ListN.{take}
use Rattle.listing.specs.Text.{Appended}
use Rattle.listing.proofs.text.Text.push_bytes.Given as goal

abbrev pub invariant-loop-b : goal.invariant-loop-b
invariant-loop-b g l = Appended l.initial.self l.self (take l.b-index l.s)
