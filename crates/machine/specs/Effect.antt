-- What each order does (document 01, 'Orders', and the sections of document 001 that it names): one case a verb, over the width of its operands.
-- Words are read from registers and storage before anything is written; the arithmetic is hexfloat's.
use Rattle.std.specs.Prelude.{ℕ, ◌+◌, ◌%◌, Bool, true, false, cond, List, ◌==◌}
use Rattle.hexfloat.specs.declared.addition.Sense.{Sense}
use Rattle.hexfloat.specs.declared.word.Width.{Width}
use Rattle.hexfloat.specs.declared.word.Words.{Words}
use Rattle.hexfloat.specs.declared.word.Coded.{Coded}
use Rattle.hexfloat.specs.Add.{summed_words}
use Rattle.hexfloat.specs.Answer.{Answer, gives, stops, mapped}
use Rattle.hexfloat.specs.Condition.{operand_condition, general_condition, complement}
use Rattle.hexfloat.specs.Compare.{compared_words}
use Rattle.hexfloat.specs.Convert.{to_fixed, to_float}
use Rattle.hexfloat.specs.Divide.{quotient_words}
use Rattle.hexfloat.specs.Multiply.{product_words}
use Rattle.machine.specs.declared.change.Change.{Change}
use Rattle.orders.specs.declared.order.Operation.{Operation}
use Rattle.orders.specs.declared.order.Order.{Order}
use Rattle.orders.specs.declared.order.Verb.{Verb}
use Rattle.machine.specs.declared.state.Registers.{Registers}
use Rattle.machine.specs.declared.state.Status.{Status}
use Rattle.machine.specs.declared.verdict.Effect.{Effect}
use Rattle.machine.specs.Change.{float_change, storage_change}
use Rattle.machine.specs.Jump.{jumped, counted_down}
use Rattle.orders.specs.General.{general_at}
use Rattle.machine.specs.Operand.{float_operand, second_operand}
use Rattle.machine.specs.Status.{status}

-- a change and a condition code; mask and selector stay, and the pointer moves on by one
abbrev pub next_effect : Status → Change → ℕ → Effect
next_effect s ch c = record { change = ch; status = status c s.mask (s.pointer + 1) s.selector }

-- the condition code stays as well
abbrev pub kept_condition : Status → Change → Effect
kept_condition s ch = next_effect s ch s.condition

-- loads and LECR: the condition code by what is loaded
abbrev pub loaded : Width → Status → ℕ → Words → Effect
loaded w s r b = next_effect s (float_change w r b) (operand_condition w b)

-- LECR
abbrev pub complemented : Words → Words
complemented b = record { high = complement b.high; low = b.low }

-- compares: the condition code alone
abbrev pub compared_with : Width → Status → Words → Words → Effect
compared_with w s a b = next_effect s Change.Nothing (compared_words w a b)

-- CVFX
abbrev pub fixed_into : Status → ℕ → Coded → Effect
fixed_into s r c = next_effect s (Change.General r c.word) c.condition

-- CVFL
abbrev pub floated_into : Status → ℕ → Coded → Effect
floated_into s r c = next_effect s (Change.Float r c.word) c.condition

-- a result of arithmetic sets the condition code or leaves it
abbrev pub condition_after : Bool → Width → Words → ℕ → ℕ
condition_after sets w a before = cond sets (operand_condition w a) before

-- a result into R r or pair r
abbrev pub result_into : Bool → Width → Status → ℕ → Words → Effect
result_into sets w s r a = next_effect s (float_change w r a) (condition_after sets w a s.condition)

-- divides: the condition code stays
abbrev pub divided : Width → Status → ℕ → Words → Words → Answer Effect
divided w s r a b = mapped (result_into false w s r) (quotient_words w (s.mask == 1) a b)

-- sums and differences: the condition code by the result
abbrev pub summed_into : Sense → Width → Status → ℕ → Words → Words → Answer Effect
summed_into sense w s r a b = mapped (result_into true w s r) (summed_words sense w (s.mask == 1) a b)

-- 8.25: a short product fills R r and R r + 1 if r is even, and R r alone if it is odd; 8.24: a long one fills pair r
abbrev pub product_width : Width → ℕ → Width
product_width Width.Short r = cond (r % 2 == 0) Width.Long Width.Short
product_width Width.Long r = Width.Long

-- products: the condition code stays
abbrev pub multiplied : Width → Status → ℕ → Words → Words → Answer Effect
multiplied w s r a b = mapped (result_into false (product_width w r) s r) (product_words w (product_width w r) (s.mask == 1) a b)

-- L
abbrev pub loaded_general : Status → ℕ → ℕ → Effect
loaded_general s r w = next_effect s (Change.General r w) (general_condition w)

-- UM
abbrev pub masked : Status → ℕ → Effect
masked s r2 = record { change = Change.Nothing; status = status s.condition r2 (s.pointer + 1) s.selector }

-- SET (document 02, Job 8)
abbrev pub selected : Status → ℕ → Effect
selected s r2 = record { change = Change.Nothing; status = status s.condition s.mask (s.pointer + 1) r2 }

-- an order whose second operand is b; S, if it has one, is at a. HALT stops as 12, by a check before this
unfoldable pub performed : Verb → Width → Order → Registers → ℕ → Words → Answer Effect
performed Verb.Load w o g a b = gives (loaded w g.status o.r1 b)
performed Verb.Complement w o g a b = gives (loaded w g.status o.r1 (complemented b))
performed Verb.Compare w o g a b = gives (compared_with w g.status (float_operand w g.float o.r1) b)
performed Verb.Fix w o g a b = mapped (fixed_into g.status o.r1) (to_fixed b.high)
performed Verb.Float w o g a b = gives (floated_into g.status o.r1 (to_float b.high))
performed Verb.Divide w o g a b = divided w g.status o.r1 (float_operand w g.float o.r1) b
performed Verb.Store w o g a b = gives (kept_condition g.status (storage_change w a (float_operand w g.float o.r1)))
performed Verb.LoadGeneral w o g a b = gives (loaded_general g.status o.r1 b.high)
performed Verb.StoreGeneral w o g a b = gives (kept_condition g.status (Change.Two a (general_at g.general g.status.selector o.r1)))
performed Verb.SetMask w o g a b = gives (masked g.status o.r2)
performed Verb.Jump w o g a b = gives (jumped g.status o.r1 o.at)
performed Verb.CountDown w o g a b = gives (counted_down g.status o.r1 (general_at g.general g.status.selector o.r1) o.at)
performed Verb.Halt w o g a b = stops 12
performed (Verb.Sum sense) w o g a b = summed_into sense w g.status o.r1 (float_operand w g.float o.r1) b
performed Verb.Multiply w o g a b = multiplied w g.status o.r1 (float_operand w g.float o.r1) b
performed Verb.Select w o g a b = gives (selected g.status o.r2)

-- a legal order whose S, if it has one, is at a
unfoldable pub effect_of : Operation → Order → Registers → List ℕ → ℕ → Answer Effect
effect_of op o g m a = performed op.verb op.width o g a (second_operand op.place op.width o g.float g.general g.status.selector m a)
