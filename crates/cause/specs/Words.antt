-- The words of the operands that an order with a stop from 8 to 11 reads (document 02, Job 5).
use Rattle.std.specs.Prelude.{ℕ, zero, suc}
use Rattle.hexfloat.specs.declared.word.Width.{Width}
use Rattle.hexfloat.specs.declared.word.Words.{Words}
use Rattle.hexfloat.specs.Answer.{Answer, gives, stops}
use Rattle.orders.specs.declared.order.Verb.{Verb}
use Rattle.machine.specs.declared.fetching.Operands.{Operands}
use Rattle.cause.specs.declared.naming.Named.{Named}

-- both operands, the first one's words before the second's, leftmost first
abbrev pub both_named : Width → Words → Words → Named
both_named Width.Short a b = Named.TwoWords a.high b.high
both_named Width.Long a b = Named.FourWords a.high a.low b.high b.low

-- how many operands the arithmetic with stops from 8 to 11 reads: CVFX R r2 alone, divides, sums, differences and products two; other orders have none
abbrev pub arithmetic_operands : Verb → ℕ
arithmetic_operands Verb.Load = 0
arithmetic_operands Verb.Complement = 0
arithmetic_operands Verb.Compare = 0
arithmetic_operands Verb.Fix = 1
arithmetic_operands Verb.Float = 0
arithmetic_operands Verb.Divide = 2
arithmetic_operands Verb.Store = 0
arithmetic_operands Verb.LoadGeneral = 0
arithmetic_operands Verb.StoreGeneral = 0
arithmetic_operands Verb.SetMask = 0
arithmetic_operands Verb.Jump = 0
arithmetic_operands Verb.CountDown = 0
arithmetic_operands Verb.Halt = 0
arithmetic_operands (Verb.Sum s) = 2
arithmetic_operands Verb.Multiply = 2
arithmetic_operands Verb.Select = 0

-- one operand is the second
unfoldable pub words_named : ℕ → Width → Words → Words → Named
words_named zero w a b = Named.Nothing
words_named (suc zero) w a b = Named.OneWord b.high
words_named (suc (suc n)) w a b = both_named w a b

-- an order that has no operands to read names none
unfoldable pub words_read : Answer Operands → Named
words_read (gives q) = words_named (arithmetic_operands q.operation.verb) q.operation.width q.first q.second
words_read (stops k) = Named.Nothing
