-- Which registers an order reads and which it writes, where the selector is s (document 02, Job 11; 'Orders' of document 01, 8.25, 2.2.1): by the role of its
-- r1, a case a verb as in Effect (orders, Role), and by the place of its second operand. All operands are read before anything is written.
use Rattle.std.specs.Prelude.{ℕ, ◌+◌, ◌%◌, cond, List, [], ◌∷◌, ◌++◌, ◌==◌}
use Rattle.hexfloat.specs.declared.word.Width.{Width}
use Rattle.orders.specs.declared.order.Operation.{Operation}
use Rattle.orders.specs.declared.order.Order.{Order}
use Rattle.orders.specs.declared.order.Place.{Place}
use Rattle.orders.specs.declared.role.Role.{Role}
use Rattle.orders.specs.General.{general_at}
use Rattle.orders.specs.Role.{role_read, role_written}
use Rattle.machine.specs.declared.state.Registers.{Registers}
use Rattle.machine.specs.Effect.{product_width}
use Rattle.machine.specs.Operand.{float_at}

-- float register r, or general register r of set s
pub data Register : Type 0 where
  float : ℕ → Register
  general : ℕ → ℕ → Register

-- what it holds
abbrev pub contents : Registers → Register → ℕ
contents g (float r) = float_at g.float r
contents g (general s r) = general_at g.general s r

-- R r, or both members of pair r
unfoldable pub floats : Width → ℕ → List Register
floats Width.Short r = float r ∷ []
floats Width.Long r = float r ∷ float ((r + 1) % 8) ∷ []

-- the index register that r2 names, if it is not 0
unfoldable pub index_read : ℕ → ℕ → List Register
index_read s r = cond (r == 0) [] (general s r ∷ [])

-- for the second operand
unfoldable pub second_read : Place → Width → Order → ℕ → List Register
second_read Place.Nowhere w o s = []
second_read Place.FloatRegister w o s = floats w o.r2
second_read Place.GeneralRegister w o s = general s o.r2 ∷ []
second_read Place.Storage w o s = index_read s o.r2

-- what r1 names by its role, for operands of width w; 8.25: a short product fills a pair if r1 is even
unfoldable pub named : Role → Width → ℕ → ℕ → List Register
named Role.Nothing w r s = []
named Role.Operand w r s = floats w r
named Role.Product w r s = floats (product_width w r) r
named Role.Float w r s = float r ∷ []
named Role.General w r s = general s r ∷ []

-- for the first operand, and for the second
abbrev pub first_read : Operation → Order → ℕ → List Register
first_read op o s = named (role_read op.verb) op.width o.r1 s

abbrev pub read_by : Operation → Order → ℕ → List Register
read_by op o s = first_read op o s ++ second_read op.place op.width o s

abbrev pub written_by : Operation → Order → ℕ → List Register
written_by op o s = named (role_written op.verb) op.width o.r1 s
