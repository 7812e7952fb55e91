use Prim.Native.Nat.{◌-◌, ◌/◌, ◌^◌}
use Rattle.listing.specs.Digits.{hexadecimal}
use Rattle.listing.specs.Text.{Appended}
use Rattle.listing.proofs.text.Text.push_word.Given as goal

abbrev pub invariant-loop-i : goal.invariant-loop-i
invariant-loop-i g l = Appended l.initial.self l.self (hexadecimal l.i (l.w / 16 ^ (8 - l.i)))
