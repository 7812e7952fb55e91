use Rattle.decktext.proofs.Walking.{Walking}
use Rattle.decktext.proofs.Parsed.{Taking}
use Rattle.decktext.specs.Walk.{wanted_of, value_as}
use Rattle.protection.specs.Bits.{bitwise}
use Rattle.decktext.specs.Read.{buffers}
use lib.ListN.{length}
use Prim.Native.Nat.{◌-◌}
use mathlib.Core.Path.{◌≡◌}
use Rattle.decktext.proofs.deck.walk.Given as goal

abbrev pub invariant-lines : goal.invariant-lines
invariant-lines l = (l.reader.text.now ≡ l.text) × Walking l.text (buffers l.cells l.memory (bitwise l.protect)) l.sizes l.p l.reader.at l.line l.staged.halfwords l.staged.values

abbrev pub decreases-lines : goal.decreases-lines
decreases-lines l = length l.text - l.reader.at

abbrev pub invariant-loop-i : goal.invariant-loop-i
invariant-loop-i l = Taking (value_as (wanted_of l.p.wanted)) l.i-end l.bytes 0 l.end l.from l.i l.values
