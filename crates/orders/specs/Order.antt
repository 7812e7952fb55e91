-- The orders and check 5 (document 01, 'Orders', 'Lent' and row 5 of the causes).
use Rattle.std.specs.Prelude.{Option, Some, None, ℕ, ◌+◌, ◌*◌, List, [], ◌∷◌, Bool, true, false, cond, ◌&&◌, get_or, eqb, leb}
use Rattle.hexfloat.specs.declared.addition.Sense.{Sense}
use Rattle.hexfloat.specs.declared.word.Width.{Width}
use Rattle.hexfloat.specs.Answer.{Answer, gives, stops, provided, and_then}
use Rattle.orders.specs.declared.order.Order.{Order}
use Rattle.orders.specs.declared.order.Operation.{Operation}
use Rattle.orders.specs.declared.order.Verb.{Verb}
use Rattle.orders.specs.declared.order.Place.{Place}

-- four cells an order: code, r1, r2, at
abbrev pub order_at : List ℕ → ℕ → Order
order_at deck p = record {
  code = get_or deck (p * 4) 0;
  r1 = get_or deck (p * 4 + 1) 0;
  r2 = get_or deck (p * 4 + 2) 0;
  at = get_or deck (p * 4 + 3) 0;
}

-- A row of document 01's table: what the order does, how wide its operands are, where its second operand is, and the largest r1, r2 and `at`,
-- a cell not named for the order being 0.
abbrev pub row : Verb → Width → Place → ℕ → ℕ → ℕ → Operation
row v w p a b c = record { verb = v; width = w; place = p; r1 = a; r2 = b; at = c }

-- r1 r2, the second operand being R r2
abbrev pub on_float : Verb → Width → Operation
on_float v w = row v w Place.FloatRegister 7 7 0

-- r1 r2, the second operand being G r2
abbrev pub on_general : Verb → Width → Operation
on_general v w = row v w Place.GeneralRegister 7 7 0

-- r1 r2 at, the second operand being S, with G r2 as its index (document 02, Job 7)
abbrev pub on_storage : Verb → Width → Operation
on_storage v w = row v w Place.Storage 7 7 65535

-- no second operand
abbrev pub on_cells : Verb → ℕ → ℕ → ℕ → Operation
on_cells v a b c = row v Width.Short Place.Nowhere a b c

-- The table from code 1 on: LER, LE, LED, LECR; CER, CE, CEDR, CED; CVFX, CVFL; DER, DE, DEDR, DED; STE, STED, L, ST; UM, JC, JN, HALT;
-- AER, AE, SER, SE; AEDR, AED, SEDR, SED; MER, ME, MEDR, MED; SET.
abbrev pub rows : List Operation
rows =
    on_float Verb.Load Width.Short
    ∷ on_storage Verb.Load Width.Short
    ∷ on_storage Verb.Load Width.Long
    ∷ on_float Verb.Complement Width.Short
    ∷ on_float Verb.Compare Width.Short
    ∷ on_storage Verb.Compare Width.Short
    ∷ on_float Verb.Compare Width.Long
    ∷ on_storage Verb.Compare Width.Long
    ∷ on_float Verb.Fix Width.Short
    ∷ on_general Verb.Float Width.Short
    ∷ on_float Verb.Divide Width.Short
    ∷ on_storage Verb.Divide Width.Short
    ∷ on_float Verb.Divide Width.Long
    ∷ on_storage Verb.Divide Width.Long
    ∷ on_storage Verb.Store Width.Short
    ∷ on_storage Verb.Store Width.Long
    ∷ on_storage Verb.LoadGeneral Width.Short
    ∷ on_storage Verb.StoreGeneral Width.Short
    ∷ on_cells Verb.SetMask 0 1 0
    ∷ on_cells Verb.Jump 7 0 65535
    ∷ on_cells Verb.CountDown 7 0 65535
    ∷ on_cells Verb.Halt 0 0 0
    ∷ on_float (Verb.Sum Sense.Plus) Width.Short
    ∷ on_storage (Verb.Sum Sense.Plus) Width.Short
    ∷ on_float (Verb.Sum Sense.Minus) Width.Short
    ∷ on_storage (Verb.Sum Sense.Minus) Width.Short
    ∷ on_float (Verb.Sum Sense.Plus) Width.Long
    ∷ on_storage (Verb.Sum Sense.Plus) Width.Long
    ∷ on_float (Verb.Sum Sense.Minus) Width.Long
    ∷ on_storage (Verb.Sum Sense.Minus) Width.Long
    ∷ on_float Verb.Multiply Width.Short
    ∷ on_storage Verb.Multiply Width.Short
    ∷ on_float Verb.Multiply Width.Long
    ∷ on_storage Verb.Multiply Width.Long
    ∷ on_cells Verb.Select 0 1 0
    ∷ []

-- the row of code n among some rows, the first of which has the code k; an unknown code is a 5
unfoldable pub row_among : List Operation → ℕ → ℕ → Answer Operation
row_among [] k n = stops 5
row_among (op ∷ ops) k n = cond (eqb n k) (gives op) (row_among ops (k + 1) n)

unfoldable pub operation_of : ℕ → Answer Operation
operation_of n = row_among rows 1 n

-- every cell is within its limit
unfoldable pub within_limits : Operation → Order → Bool
within_limits op o = leb o.r1 op.r1 && (leb o.r2 op.r2 && leb o.at op.at)

-- check 5: the operation, where the code is known and each cell is within its limit
unfoldable pub legal_of : Order → Answer Operation
legal_of o = and_then (operation_of o.code) (λ op. provided (within_limits op o) 5 (gives op))

-- what the code's answer says: an unknown code is a 5
abbrev pub says_row : Option Operation → Answer Operation
says_row (Some op) = gives op
says_row None = stops 5

-- two halfwords for a short operand, four for a long one
abbrev pub halfwords : Width → ℕ
halfwords Width.Short = 2
halfwords Width.Long = 4

-- how many halfwords S has
abbrev pub span_as : Place → Width → ℕ
span_as Place.Nowhere w = 0
span_as Place.FloatRegister w = 0
span_as Place.GeneralRegister w = 0
span_as Place.Storage w = halfwords w

abbrev pub span_of : Operation → ℕ
span_of op = span_as op.place op.width

-- how many of them are stored to
abbrev pub stored_as : Verb → Width → ℕ
stored_as Verb.Load w = 0
stored_as Verb.Complement w = 0
stored_as Verb.Compare w = 0
stored_as Verb.Fix w = 0
stored_as Verb.Float w = 0
stored_as Verb.Divide w = 0
stored_as Verb.Store w = halfwords w
stored_as Verb.LoadGeneral w = 0
stored_as Verb.StoreGeneral w = 2
stored_as Verb.SetMask w = 0
stored_as Verb.Jump w = 0
stored_as Verb.CountDown w = 0
stored_as Verb.Halt w = 0
stored_as (Verb.Sum s) w = 0
stored_as Verb.Multiply w = 0
stored_as Verb.Select w = 0

abbrev pub stored_of : Operation → ℕ
stored_of op = stored_as op.verb op.width

-- HALT
abbrev pub is_halt : Verb → Bool
is_halt Verb.Load = false
is_halt Verb.Complement = false
is_halt Verb.Compare = false
is_halt Verb.Fix = false
is_halt Verb.Float = false
is_halt Verb.Divide = false
is_halt Verb.Store = false
is_halt Verb.LoadGeneral = false
is_halt Verb.StoreGeneral = false
is_halt Verb.SetMask = false
is_halt Verb.Jump = false
is_halt Verb.CountDown = false
is_halt Verb.Halt = true
is_halt (Verb.Sum s) = false
is_halt Verb.Multiply = false
is_halt Verb.Select = false

-- JC and JN
abbrev pub is_jump : Verb → Bool
is_jump Verb.Load = false
is_jump Verb.Complement = false
is_jump Verb.Compare = false
is_jump Verb.Fix = false
is_jump Verb.Float = false
is_jump Verb.Divide = false
is_jump Verb.Store = false
is_jump Verb.LoadGeneral = false
is_jump Verb.StoreGeneral = false
is_jump Verb.SetMask = false
is_jump Verb.Jump = true
is_jump Verb.CountDown = true
is_jump Verb.Halt = false
is_jump (Verb.Sum s) = false
is_jump Verb.Multiply = false
is_jump Verb.Select = false

-- SET
abbrev pub is_select : Verb → Bool
is_select Verb.Load = false
is_select Verb.Complement = false
is_select Verb.Compare = false
is_select Verb.Fix = false
is_select Verb.Float = false
is_select Verb.Divide = false
is_select Verb.Store = false
is_select Verb.LoadGeneral = false
is_select Verb.StoreGeneral = false
is_select Verb.SetMask = false
is_select Verb.Jump = false
is_select Verb.CountDown = false
is_select Verb.Halt = false
is_select (Verb.Sum s) = false
is_select Verb.Multiply = false
is_select Verb.Select = true
