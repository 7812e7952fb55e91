-- What holds of the effect of an order that passes its checks: its registers are among 0 to 7, its halfwords are there and free, its condition code,
-- mask and selector are of the form, and a general register that it changes is of the set that was selected.
use Rattle.std.proofs.Common.{◌≡◌, ℕ, ◌≤◌, Bool, true, false, eqb, List, refl, subst, arith, le-leb, leb-true}
use Rattle.hexfloat.specs.declared.word.Width.{Width}
use Rattle.hexfloat.specs.declared.word.Words.{Words}
use Rattle.hexfloat.specs.Add.{summed_words}
use Rattle.hexfloat.specs.Answer.{Answer, gives, mapped}
use Rattle.hexfloat.specs.Convert.{to_fixed}
use Rattle.hexfloat.specs.Divide.{quotient_words}
use Rattle.hexfloat.specs.Multiply.{product_words}
use Rattle.hexfloat.proofs.Conditions.{conditions_set}
use Rattle.protection.specs.Form.{ProtectList}
use Rattle.machine.specs.declared.change.Change.{Change}
use Rattle.orders.specs.declared.order.Order.{Order}
use Rattle.orders.specs.declared.order.Verb.{Verb}
use Rattle.machine.specs.declared.state.Registers.{Registers}
use Rattle.machine.specs.declared.verdict.Effect.{Effect}
use Rattle.machine.specs.Change.{registered, placed, guarded, general_after, float_change, storage_change}
use Rattle.machine.specs.Check.{present, any_protected}
use Rattle.machine.specs.Effect.{next_effect, condition_after, fixed_into, result_into, product_width, performed}
use Rattle.machine.specs.Jump.{jumped, counted_down}
use Rattle.machine.specs.Operand.{float_operand}
use Rattle.orders.specs.Order.{stored_as, halfwords}
use Rattle.machine.specs.Status.{condition_formed}
use Rattle.hexfloat.proofs.Answers.{gives_inj, never, mapped_gives}
use Rattle.machine.proofs.Arithmetic.{formed}
use Rattle.machine.proofs.Rows.{bit_fits}

-- of an effect, over a protect list and so many halfwords, where set s was selected
pub record Fine (p : ProtectList) (n s : ℕ) (e : Effect) : Type 0 where
  pub registers : registered e.change ≡ true
  pub there : placed e.change n ≡ true
  pub free : guarded p e.change ≡ false
  pub condition : condition_formed e.status.condition ≡ true
  pub mask : e.status.mask ≤ 1
  pub selector : e.status.selector ≤ 1
  pub general : (l : List ℕ) → general_after e.change l e.status.selector ≡ general_after e.change l s

-- of a verb at a width before its effect is worked out; what it stores goes to a, and r2 is at most k
pub record Sound (v : Verb) (w : Width) (o : Order) (g : Registers) (p : ProtectList) (n a k : ℕ) : Type 0 where
  pub first : o.r1 ≤ 7
  pub second : o.r2 ≤ k
  pub limit : bit_fits v k ≡ true
  pub there : present (stored_as v w) a n ≡ true
  pub free : any_protected p a (stored_as v w) ≡ false
  pub condition : condition_formed g.status.condition ≡ true
  pub mask : g.status.mask ≤ 1
  pub selector : g.status.selector ≤ 1

module _ (p : ProtectList) (n a k : ℕ) where
  fine_is : {t : ℕ} {x e : Effect} → gives x ≡ gives e → Fine p n t x → Fine p n t e
  fine_is {t} h f = subst (λ (y : Effect). Fine p n t y) (gives_inj h) f

  module _ (v : Verb) (w : Width) (o : Order) (g : Registers) (s : Sound v w o g p n a k) where
    -- a change of float registers, at the width u of what is put there
    float_fine : (u : Width) (b : Words) (c : ℕ) → condition_formed c ≡ true → Fine p n g.status.selector (next_effect g.status (float_change u o.r1 b) c)
    unfolding registered placed guarded float_change
    float_fine Width.Short b c h = record { registers = le-leb o.r1 7 s.first; there = refl; free = refl; condition = h; mask = s.mask; selector = s.selector; general = λ l. refl }
    float_fine Width.Long b c h = record { registers = le-leb o.r1 7 s.first; there = refl; free = refl; condition = h; mask = s.mask; selector = s.selector; general = λ l. refl }

    -- a result of arithmetic, with the condition code that it sets or leaves
    result_fine :
        (sets : Bool) (u : Width) (r : Answer Words) (e : Effect) → mapped (result_into sets u g.status o.r1) r ≡ gives e →
        Fine p n g.status.selector e
    result_fine sets u r e h =
        let q = mapped_gives (result_into sets u g.status o.r1) r h in
        subst (λ (y : Effect). Fine p n g.status.selector y) q.2 (float_fine u q.0 _ (cases sets q.0))
      where
        cases : (t : Bool) (a : Words) → condition_formed (condition_after t u a g.status.condition) ≡ true
        cases true a = formed (conditions_set.operand u a)
        cases false a = s.condition

    -- of one register
    one_fine : (x c : ℕ) → condition_formed c ≡ true → Fine p n g.status.selector (next_effect g.status (Change.Float o.r1 x) c)
    unfolding registered placed guarded
    one_fine x c h = record { registers = le-leb o.r1 7 s.first; there = refl; free = refl; condition = h; mask = s.mask; selector = s.selector; general = λ l. refl }

    general_fine : (x c : ℕ) → condition_formed c ≡ true → Fine p n g.status.selector (next_effect g.status (Change.General o.r1 x) c)
    unfolding registered placed guarded
    general_fine x c h = record { registers = le-leb o.r1 7 s.first; there = refl; free = refl; condition = h; mask = s.mask; selector = s.selector; general = λ l. refl }

    -- of nothing but the condition code
    code_fine : (c : ℕ) → condition_formed c ≡ true → Fine p n g.status.selector (next_effect g.status Change.Nothing c)
    unfolding registered placed guarded
    code_fine c h = record { registers = refl; there = refl; free = refl; condition = h; mask = s.mask; selector = s.selector; general = λ l. refl }

    -- a store of an operand of width u
    storage_fine :
        (u : Width) (b : Words) → present (halfwords u) a n ≡ true → any_protected p a (halfwords u) ≡ false →
        Fine p n g.status.selector (next_effect g.status (storage_change u a b) g.status.condition)
    unfolding registered placed guarded storage_change present
    storage_fine Width.Short b t f = record { registers = refl; there = t; free = f; condition = s.condition; mask = s.mask; selector = s.selector; general = λ l. refl }
    storage_fine Width.Long b t f = record { registers = refl; there = t; free = f; condition = s.condition; mask = s.mask; selector = s.selector; general = λ l. refl }

  pub effect_fine :
      (v : Verb) (w : Width) (o : Order) (g : Registers) (b : Words) (e : Effect) → Sound v w o g p n a k → performed v w o g a b ≡ gives e →
      Fine p n g.status.selector e
  unfolding performed jumped counted_down registered placed guarded general_after bit_fits present
  effect_fine Verb.Load w o g b e s h = fine_is h (float_fine Verb.Load w o g s w b _ (formed (conditions_set.operand w b)))
  effect_fine Verb.Complement w o g b e s h = fine_is h (float_fine Verb.Complement w o g s w _ _ (formed (conditions_set.operand w _)))
  effect_fine Verb.Compare w o g b e s h = fine_is h (code_fine Verb.Compare w o g s _ (formed (conditions_set.compare w (float_operand w g.float o.r1) b)))
  effect_fine Verb.Fix w o g b e s h =
      let q = mapped_gives (fixed_into g.status o.r1) (to_fixed b.high) h in
      subst (λ (y : Effect). Fine p n g.status.selector y) q.2 (general_fine Verb.Fix w o g s _ _ (formed (conditions_set.fixed b.high q.0 q.1)))
  effect_fine Verb.Float w o g b e s h = fine_is h (one_fine Verb.Float w o g s _ _ (formed (conditions_set.float b.high)))
  effect_fine Verb.Divide w o g b e s h = result_fine Verb.Divide w o g s false w (quotient_words w (eqb g.status.mask 1) (float_operand w g.float o.r1) b) e h
  effect_fine Verb.Store w o g b e s h = fine_is h (storage_fine Verb.Store w o g s w (float_operand w g.float o.r1) s.there s.free)
  effect_fine Verb.LoadGeneral w o g b e s h = fine_is h (general_fine Verb.LoadGeneral w o g s _ _ (formed (conditions_set.general b.high)))
  effect_fine Verb.StoreGeneral w o g b e s h =
      fine_is h (record { registers = refl; there = s.there; free = s.free; condition = s.condition; mask = s.mask; selector = s.selector; general = λ l. refl })
  effect_fine Verb.SetMask w o g b e s h =
      fine_is h (record {
        registers = refl;
        there = refl;
        free = refl;
        condition = s.condition;
        mask = omega (arith, leb-true k 1 s.limit, s.second);
        selector = s.selector;
        general = λ l. refl;
      })
  effect_fine Verb.Jump w o g b e s h = fine_is h (record { registers = refl; there = refl; free = refl; condition = s.condition; mask = s.mask; selector = s.selector; general = λ l. refl })
  effect_fine Verb.CountDown w o g b e s h =
      fine_is h (record { registers = le-leb o.r1 7 s.first; there = refl; free = refl; condition = s.condition; mask = s.mask; selector = s.selector; general = λ l. refl })
  effect_fine Verb.Halt w o g b e s h = never h
  effect_fine (Verb.Sum sense) w o g b e s h = result_fine (Verb.Sum sense) w o g s true w (summed_words sense w (eqb g.status.mask 1) (float_operand w g.float o.r1) b) e h
  effect_fine Verb.Multiply w o g b e s h =
      result_fine Verb.Multiply w o g s false (product_width w o.r1) (product_words w (product_width w o.r1) (eqb g.status.mask 1) (float_operand w g.float o.r1) b) e h
  effect_fine Verb.Select w o g b e s h =
      fine_is h (record {
        registers = refl;
        there = refl;
        free = refl;
        condition = s.condition;
        mask = s.mask;
        selector = omega (arith, leb-true k 1 s.limit, s.second);
        general = λ l. refl;
      })
