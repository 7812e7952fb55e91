use Rattle.decktext.proofs.Digits.{grown, within}
use Rattle.decktext.proofs.Same.{next}
use Rattle.decktext.specs.Key.{bytes_from, name_key}
use lib.ListN.{length, drop_of_length-le}
use Prim.Native.Nat.{ℕ, ◌+◌, ◌*◌, ◌^◌, ◌≤◌, ◌<◌}
use mathlib.Core.Path.{◌≡◌, ap}
use native.Mathlib.Omega.{arith}
use Rattle.decktext.proofs.mnemonic.key.Goals as goal

-- a number of i bytes, of which there are at most four
four_bytes : {n i : ℕ} → n < 256 ^ i → i ≤ 4 → n < 4294967296
four_bytes h l = let k = within 256 _ 4 (omega arith) h l in omega arith

pub overflow_mul-n : goal.overflow_mul-n
overflow_mul-n c = omega (arith, four_bytes c.loop-b.invariant.0 (omega arith))

pub loop-b-preserved : goal.loop-b-preserved
unfolding bytes_from
loop-b-preserved c = (
  grown 256 c.loop-b.b-index c.loop-b.invariant.0 (omega (arith, c.type_inv.v c.loop-b.b-index)),
  rw (next c.args.v.now c.loop-b.b-index (omega arith)) at c.loop-b.invariant.1,
)

pub overflow_mul-result : goal.overflow_mul-result
overflow_mul-result c = omega (arith, four_bytes c.loop-b.invariant.0 (omega arith))

pub overflow_add-result : goal.overflow_add-result
overflow_add-result c = omega (arith, four_bytes c.loop-b.invariant.0 (omega arith))

pub returns : goal.returns
unfolding name_key bytes_from
returns c = (
  let e : c.loop-b.n ≡ bytes_from 0 c.args.v.now = rw (drop_of_length-le c.args.v.now c.loop-b-test.false) at c.loop-b.invariant.1 in
      ap (λ (x : ℕ). x * 8 + length c.args.v.now) e,
  omega (arith, four_bytes c.loop-b.invariant.0 (omega arith)),
)
