use Prim.Native.Nat.{ℕ, ◌≤◌, ◌<◌}
use mathlib.Core.Path.{◌≡◌}
use mathlib.Core.List.{List}
use lib.ListN.{length}
use Rattle.std.specs.Prelude.{Result, Ok, Err}
use Rattle.std.specs.Result.{OkIff, result_ok}
use Rattle.decktext.specs.Value.{says_value}
use Rattle.decktext.specs.Walk.{number_in}
use Rattle.decktext.proofs.Digits.{Number, fits, on, stop, end, end_large}
use native.Mathlib.Omega.{arith}
use Rattle.decktext.proofs.value.number.Goals as goal

pub returns-then-base-d : goal.returns-then-base-d
returns-then-base-d c = stop c.loop-b.invariant c.digit-d.result (omega arith) c.digit-d.ensures c.if-base-d.true

pub overflow_mul-n : goal.overflow_mul-n
overflow_mul-n c = let h = fits c.loop-b.invariant 0 c.requires.1 c.requires.2 c.requires.0 (omega arith) c.requires.1 in omega arith

pub overflow_add-n : goal.overflow_add-n
overflow_add-n c = let h = fits c.loop-b.invariant c.digit-d.result c.requires.1 c.requires.2 c.requires.0 (omega arith) c.if-base-d.false in omega arith

pub loop-b-preserved : goal.loop-b-preserved
loop-b-preserved c = on c.loop-b.invariant c.digit-d.result (omega arith) c.digit-d.ensures c.if-base-d.false c.requires.2

-- what has 16 bits is the number
by_width : {base n i : ℕ} {v : List ℕ} {E : Type 0} (r : Result ℕ E) → Number base v n i → length v ≤ i → OkIff r (n < 65536) n → says_value (result_ok r) ≡ number_in base v
by_width (Ok x) k l h = rw h.1 (end k l (omega (arith, h.0)))
by_width (Err e) k l h = end_large k l (let large : (65535 < _) = omega (arith, h) in large)

pub returns : goal.returns
returns c = rw c.ok.ensures.value (by_width c.try_from.result c.loop-b.invariant c.loop-b-test.false c.try_from.ensures)
