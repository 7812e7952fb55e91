-- What a change whose places are there says of its register or address, by its kind.
use Rattle.std.proofs.Common.{◌≡◌, ℕ, ◌+◌, ◌<◌, ◌≤◌, true, arith, leb-true}
use Rattle.hexfloat.specs.declared.word.Width.{Width}
use Rattle.machine.specs.declared.change.Change.{Change}
use Rattle.machine.specs.Change.{placed, registered}
use Rattle.orders.specs.Order.{halfwords}

pub placed_two : {ch : Change} {a w n : ℕ} → ch ≡ Change.Two a w → placed ch n ≡ true → a + 2 ≤ n
unfolding placed
placed_two {ch} {a} {w} {n} e h = leb-true (a + 2) n (rw e at h)

pub placed_four : {ch : Change} {a x y n : ℕ} → ch ≡ Change.Four a x y → placed ch n ≡ true → a + 4 ≤ n
unfolding placed
placed_four {ch} {a} {x} {y} {n} e h = leb-true (a + 4) n (rw e at h)

pub registered_float : {ch : Change} {r w : ℕ} → ch ≡ Change.Float r w → registered ch ≡ true → r ≤ 7
unfolding registered
registered_float {ch} {r} {w} e h = leb-true r 7 (rw e at h)

pub registered_pair : {ch : Change} {r x y : ℕ} → ch ≡ Change.Pair r x y → registered ch ≡ true → r ≤ 7
unfolding registered
registered_pair {ch} {r} {x} {y} e h = leb-true r 7 (rw e at h)

pub registered_general : {ch : Change} {r w : ℕ} → ch ≡ Change.General r w → registered ch ≡ true → r ≤ 7
unfolding registered
registered_general {ch} {r} {w} e h = leb-true r 7 (rw e at h)

-- an operand has a halfword
pub some : (w : Width) → 0 < halfwords w
some Width.Short = omega arith
some Width.Long = omega arith
