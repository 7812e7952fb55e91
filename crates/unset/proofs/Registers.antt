-- The registers that a legal order names are among the 24: those that it reads and those that it writes.
use Prim.Native.Nat.{ℕ, ◌≤◌}
use mathlib.Core.Path.{◌≡◌, refl}
use mathlib.Core.Bool.{Bool, true, false}
use lib.Dec.{eqb}
use native.Mathlib.Omega.{arith}
use Rattle.hexfloat.specs.declared.word.Width.{Width}
use Rattle.hexfloat.specs.Answer.{gives}
use Rattle.orders.specs.declared.order.Operation.{Operation}
use Rattle.orders.specs.declared.order.Order.{Order}
use Rattle.orders.specs.declared.order.Place.{Place}
use Rattle.orders.specs.declared.role.Role.{Role}
use Rattle.orders.specs.Order.{legal_of}
use Rattle.orders.specs.Role.{role_read, role_written}
use Rattle.machine.specs.Effect.{product_width}
use Rattle.machine.specs.Uses.{floats, index_read, second_read, named, first_read, written_by}
use Rattle.machine.proofs.Rows.{legal_passed}
use Rattle.unset.specs.Uses.{Numbered}
use Rattle.unset.proofs.Words.{AllProper}

-- check 5 leaves no register above 7
pub numbered : (o : Order) (op : Operation) (s : ℕ) → legal_of o ≡ gives op → s ≤ 1 → Numbered o s
numbered o op s h l = let p = legal_passed o op h in record { r1 = p.first; r2 = p.second; selector = l }

-- a float register or a pair
proper_floats : (w : Width) (r : ℕ) → r ≤ 7 → AllProper (floats w r)
unfolding floats
proper_floats Width.Short r l = (l, tt)
proper_floats Width.Long r l = (l, (omega arith, tt))

-- an index register, if there is one
proper_index : (s r : ℕ) → s ≤ 1 → r ≤ 7 → AllProper (index_read s r)
unfolding index_read
proper_index s r l m = cases (eqb r 0) refl
  where
    cases : (b : Bool) → eqb r 0 ≡ b → AllProper (index_read s r)
    cases true e = rw e tt
    cases false e = rw e ((l, m), tt)

-- what r1 names by its role
proper_named : (role : Role) (w : Width) (r s : ℕ) → r ≤ 7 → s ≤ 1 → AllProper (named role w r s)
unfolding named
proper_named Role.Nothing w r s l m = tt
proper_named Role.Operand w r s l m = proper_floats w r l
proper_named Role.Product w r s l m = proper_floats (product_width w r) r l
proper_named Role.Float w r s l m = (l, tt)
proper_named Role.General w r s l m = ((m, l), tt)

-- of the second
proper_second : (p : Place) (w : Width) (o : Order) (s : ℕ) → Numbered o s → AllProper (second_read p w o s)
unfolding second_read
proper_second Place.Nowhere w o s n = tt
proper_second Place.FloatRegister w o s n = proper_floats w o.r2 n.r2
proper_second Place.GeneralRegister w o s n = ((n.selector, n.r2), tt)
proper_second Place.Storage w o s n = proper_index s o.r2 n.selector n.r2

-- what an order reads, and what it writes
pub proper_read : (op : Operation) (o : Order) (s : ℕ) → Numbered o s → AllProper (first_read op o s) × AllProper (second_read op.place op.width o s)
proper_read op o s n = (proper_named (role_read op.verb) op.width o.r1 s n.r1 n.selector, proper_second op.place op.width o s n)

pub proper_written : (op : Operation) (o : Order) (s : ℕ) → Numbered o s → AllProper (written_by op o s)
proper_written op o s n = proper_named (role_written op.verb) op.width o.r1 s n.r1 n.selector
