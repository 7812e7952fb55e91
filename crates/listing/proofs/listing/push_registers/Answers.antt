use native.Mathlib.Numerals.{add-one}
use native.Mathlib.Omega.{arith}
use Rattle.listing.specs.Listing.{register_lines}
use Rattle.listing.proofs.Appends.{nothing, then}
use Rattle.listing.proofs.Words.{lines_length}
use Rattle.listing.proofs.listing.push_registers.Goals as goal

pub loop-i-init : goal.loop-i-init
unfolding register_lines
loop-i-init c = nothing

pub push_register-requires : goal.push_register-requires
push_register-requires c =
    let g = c.args.g in
    omega (arith, c.loop-i.invariant.size, lines_length c.loop-i.i g.float g.general g.status.selector)

pub loop-i-preserved : goal.loop-i-preserved
unfolding register_lines
loop-i-preserved c = rw add-one (then c.loop-i.invariant (rw c.general_at-general.ensures at c.push_register.ensures))
