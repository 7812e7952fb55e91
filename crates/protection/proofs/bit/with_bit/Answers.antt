-- `protection::bit::with_bit` meets its contract: the bits from k on with another last one, and those below.
-- Assumes nothing.
use Prim.Native.Nat.{◌<◌}
use mathlib.Core.Path.{◌≡◌, refl}
use mathlib.Core.Bool.{Bool, true, false, cond}
use native.Mathlib.Omega.{arith}
use mir.Val.{bool_byte}
use borrow.Author.Rules.{rules}
use Rattle.protection.specs.Bits.{with_bit}
use Rattle.protection.proofs.Bits.{bit_byte, rejoined_from, rejoined}
use Rattle.protection.proofs.bit.with_bit.Goals as goal
use Rattle.protection.proofs.bit.with_bit.Goals.{Start}

-- a truth value is one digit
digit : (v : Bool) → cond v 1 0 < 2
digit true = omega arith
digit false = omega arith

as_number : (v : Bool) → bool_byte v ≡ cond v 1 0
as_number true = refl
as_number false = refl

-- what the byte's type says
byte : (c : Start) → c.args.b < 256
byte c = search rules

value : (c : Start) → rejoined_from c.args.k (cond c.args.v 1 0) c.args.b ≡ with_bit c.args.k (cond c.args.v 1 0) c.args.b
value c = rejoined c.args.k c.args.b (byte c) (cond c.args.v 1 0) (digit c.args.v) c.requires

small : (c : Start) → with_bit c.args.k (cond c.args.v 1 0) c.args.b < 256
small c = bit_byte c.args.k (cond c.args.v 1 0) c.args.b (digit c.args.v) c.requires (byte c)

pub overflow_cast-result-2 : goal.overflow_cast-result-2
overflow_cast-result-2 c = rw (as_number c.args.v, value c) (record { fits = small c })

pub returns : goal.returns
returns c = rw (as_number c.args.v) (value c)
