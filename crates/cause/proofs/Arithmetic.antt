-- The stop of an order's arithmetic is that of the words that it reads, the order and the mask.
use Prim.Native.Nat.{ℕ, zero, suc, ◌≤◌}
use mathlib.Core.Path.{◌≡◌, refl, sym, ap, ◌∙◌}
use mathlib.Core.List.{List}
use mathlib.Core.Bool.{false, true}
use lib.Dec.{eqb}
use native.Mathlib.Omega.{arith}
use Rattle.hexfloat.specs.declared.word.Width.{Width}
use Rattle.hexfloat.specs.declared.word.Words.{Words}
use Rattle.hexfloat.specs.Add.{summed_words}
use Rattle.hexfloat.specs.Answer.{Answer, gives, stops, mapped}
use Rattle.hexfloat.specs.Convert.{to_fixed}
use Rattle.hexfloat.specs.Divide.{quotient_words}
use Rattle.hexfloat.specs.Multiply.{product_words}
use Rattle.orders.specs.declared.order.Operation.{Operation}
use Rattle.orders.specs.declared.order.Order.{Order}
use Rattle.orders.specs.declared.order.Verb.{Verb}
use Rattle.orders.specs.Order.{legal_of}
use Rattle.machine.specs.declared.state.Registers.{Registers}
use Rattle.machine.specs.Effect.{fixed_into, result_into, product_width, performed, effect_of}
use Rattle.machine.specs.Operand.{float_operand, second_operand}
use Rattle.cause.specs.Arithmetic.{stop_in, arithmetic_stop, stop_by_row, stop_by}
use Rattle.cause.specs.Cause.{values_of}
use Rattle.cause.specs.Theorems.{words_in, SameStop}
use Rattle.cause.specs.Words.{both_named, arithmetic_operands, words_named}

-- where a result is put changes no stop
mapped_stop : {A B : Type 0} (f : A → B) (a : Answer A) → stop_in (mapped f a) ≡ stop_in a
mapped_stop f (gives x) = refl
mapped_stop f (stops k) = refl

pub two_named : (n : ℕ) (w : Width) (a b : Words) → 2 ≤ n → words_named n w a b ≡ both_named w a b
unfolding words_named
two_named zero w a b h = absurd (omega arith)
two_named (suc zero) w a b h = absurd (omega arith)
two_named (suc (suc n)) w a b h = refl

performed_stop :
    (v : Verb) (w : Width) (o : Order) (g : Registers) (a : ℕ) (b : Words) →
    stop_in (performed v w o g a b) ≡ arithmetic_stop v w o.r1 g.status.mask (values_of (words_named (arithmetic_operands v) w (float_operand w g.float o.r1) b))
unfolding performed arithmetic_stop words_named quotient_words summed_words product_words
performed_stop Verb.Load w o g a b = refl
performed_stop Verb.Complement w o g a b = refl
performed_stop Verb.Compare w o g a b = refl
performed_stop Verb.Fix w o g a b = mapped_stop (fixed_into g.status o.r1) (to_fixed b.high)
performed_stop Verb.Float w o g a b = refl
performed_stop Verb.Divide Width.Short o g a b = mapped_stop (result_into false Width.Short g.status o.r1) (quotient_words Width.Short (eqb g.status.mask 1) (float_operand Width.Short g.float o.r1) b)
performed_stop Verb.Divide Width.Long o g a b = mapped_stop (result_into false Width.Long g.status o.r1) (quotient_words Width.Long (eqb g.status.mask 1) (float_operand Width.Long g.float o.r1) b)
performed_stop Verb.Store w o g a b = refl
performed_stop Verb.LoadGeneral w o g a b = refl
performed_stop Verb.StoreGeneral w o g a b = refl
performed_stop Verb.SetMask w o g a b = refl
performed_stop Verb.Jump w o g a b = refl
performed_stop Verb.CountDown w o g a b = refl
performed_stop Verb.Halt w o g a b = refl
performed_stop (Verb.Sum s) Width.Short o g a b = mapped_stop (result_into true Width.Short g.status o.r1) (summed_words s Width.Short (eqb g.status.mask 1) (float_operand Width.Short g.float o.r1) b)
performed_stop (Verb.Sum s) Width.Long o g a b = mapped_stop (result_into true Width.Long g.status o.r1) (summed_words s Width.Long (eqb g.status.mask 1) (float_operand Width.Long g.float o.r1) b)
performed_stop Verb.Multiply Width.Short o g a b =
    mapped_stop (result_into false (product_width Width.Short o.r1) g.status o.r1)
    (product_words Width.Short (product_width Width.Short o.r1) (eqb g.status.mask 1) (float_operand Width.Short g.float o.r1) b)
performed_stop Verb.Multiply Width.Long o g a b =
    mapped_stop (result_into false Width.Long g.status o.r1) (product_words Width.Long Width.Long (eqb g.status.mask 1) (float_operand Width.Long g.float o.r1) b)
performed_stop Verb.Select w o g a b = refl

module _ (op : Operation) (o : Order) (legal : legal_of o ≡ gives op) where
  pub effect_stop : (g : Registers) (m : List ℕ) (a : ℕ) → stop_in (effect_of op o g m a) ≡ stop_by o g.status.mask (words_in op o g m a)
  unfolding effect_of stop_by
  effect_stop g m a =
      performed_stop op.verb op.width o g a (second_operand op.place op.width o g.float g.general g.status.selector m a)
      ∙ ap (λ (r : Answer Operation). stop_by_row r o g.status.mask (words_in op o g m a)) (sym legal)

  pub same_stop : SameStop op o
  same_stop g h m n a b words mask = effect_stop g m a ∙ rw (words, mask) (sym (effect_stop h n b))
