-- What r1 of an order is to it (document 01, 'Orders'; document 02, Job 11): the registers that it reads there, and those that it writes.
use Rattle.orders.specs.declared.order.Verb.{Verb}
use Rattle.orders.specs.declared.role.Role.{Role}

-- as it is read: a load, a complement and a conversion do not read what they write to; JN reads its register before it writes it
abbrev pub role_read : Verb → Role
role_read Verb.Load = Role.Nothing
role_read Verb.Complement = Role.Nothing
role_read Verb.Compare = Role.Operand
role_read Verb.Fix = Role.Nothing
role_read Verb.Float = Role.Nothing
role_read Verb.Divide = Role.Operand
role_read Verb.Store = Role.Operand
role_read Verb.LoadGeneral = Role.Nothing
role_read Verb.StoreGeneral = Role.General
role_read Verb.SetMask = Role.Nothing
role_read Verb.Jump = Role.Nothing
role_read Verb.CountDown = Role.General
role_read Verb.Halt = Role.Nothing
role_read (Verb.Sum s) = Role.Operand
role_read Verb.Multiply = Role.Operand
role_read Verb.Select = Role.Nothing

-- as it is written
abbrev pub role_written : Verb → Role
role_written Verb.Load = Role.Operand
role_written Verb.Complement = Role.Operand
role_written Verb.Compare = Role.Nothing
role_written Verb.Fix = Role.General
role_written Verb.Float = Role.Float
role_written Verb.Divide = Role.Operand
role_written Verb.Store = Role.Nothing
role_written Verb.LoadGeneral = Role.General
role_written Verb.StoreGeneral = Role.Nothing
role_written Verb.SetMask = Role.Nothing
role_written Verb.Jump = Role.Nothing
role_written Verb.CountDown = Role.General
role_written Verb.Halt = Role.Nothing
role_written (Verb.Sum s) = Role.Operand
role_written Verb.Multiply = Role.Product
role_written Verb.Select = Role.Nothing
