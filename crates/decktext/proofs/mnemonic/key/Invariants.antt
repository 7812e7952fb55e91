use Rattle.decktext.specs.Key.{bytes_from}
use lib.ListN.{drop}
use Prim.Native.Nat.{◌^◌, ◌<◌}
use mathlib.Core.Path.{◌≡◌}
use Rattle.decktext.proofs.mnemonic.key.Given as goal

abbrev pub invariant-loop-b : goal.invariant-loop-b
invariant-loop-b l = (l.n < 256 ^ l.b-index) × (bytes_from l.n (drop l.b-index l.v) ≡ bytes_from 0 l.v)
