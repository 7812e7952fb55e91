use Rattle.listing.specs.Listing.{register_lines}
use Rattle.listing.specs.Text.{Appended}
use Rattle.listing.proofs.listing.push_registers.Given as goal

abbrev pub invariant-loop-i : goal.invariant-loop-i
invariant-loop-i l = Appended l.initial.out l.out (register_lines l.i l.fn.g.float l.fn.g.general l.fn.g.status.selector)
