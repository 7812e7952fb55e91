-- A step of an order that names no index is decided as it was before storage orders were indexed.
use Rattle.std.proofs.Common.{◌≡◌, ℕ, ◌/◌, ◌<◌, ◌≤◌, not, ltb, List, length, refl, ap, ◌∙◌, arith, ltb-true}
use Rattle.hexfloat.specs.declared.word.Width.{Width}
use Rattle.hexfloat.specs.declared.word.Words.{Words}
use Rattle.hexfloat.specs.Answer.{Answer, gives, stops, mapped, provided, checked, and_then}
use Rattle.hexfloat.proofs.Answers.{provided-same, then_same}
use Rattle.orders.specs.declared.order.Operation.{Operation}
use Rattle.orders.specs.declared.order.Order.{Order}
use Rattle.orders.specs.declared.order.Place.{Place}
use Rattle.orders.specs.declared.order.Verb.{Verb}
use Rattle.orders.specs.Order.{legal_of, span_as, stored_as, is_halt, order_at}
use Rattle.orders.specs.Unindexed.{unindexed_row, NoIndex}
use Rattle.orders.proofs.Passing.{legal-row}
use Rattle.orders.proofs.Unindexed.{legal_unindexed}
use Rattle.protection.specs.Form.{ProtectList}
use Rattle.machine.specs.declared.state.Registers.{Registers}
use Rattle.machine.specs.declared.state.State.{State}
use Rattle.machine.specs.declared.verdict.Effect.{Effect}
use Rattle.machine.specs.Check.{present, any_protected}
use Rattle.machine.specs.Decide.{entry_in, accessed, judged, judged_at, pointer_of, decided}
use Rattle.machine.specs.Effect.{performed, effect_of}
use Rattle.machine.specs.Operand.{second_operand, address_in}
use Rattle.machine.specs.Seats.{registers_of}
use Rattle.machine.specs.Unindexed.{unindexed_judged, unindexed_decided}
use Rattle.orders.proofs.Addresses.{address_plain}
use Rattle.machine.proofs.Placed.{some}
use Rattle.machine.proofs.Rows.{legal_passed}

-- only stores look at where S is
performed_anywhere : (v : Verb) (w : Width) (o : Order) (g : Registers) (a c : ℕ) (b : Words) → stored_as v w ≡ 0 → performed v w o g a b ≡ performed v w o g c b
unfolding performed
performed_anywhere Verb.Load w o g a c b h = refl
performed_anywhere Verb.Complement w o g a c b h = refl
performed_anywhere Verb.Compare w o g a c b h = refl
performed_anywhere Verb.Fix w o g a c b h = refl
performed_anywhere Verb.Float w o g a c b h = refl
performed_anywhere Verb.Divide w o g a c b h = refl
performed_anywhere Verb.Store w o g a c b h = absurd (omega (arith, some w))
performed_anywhere Verb.LoadGeneral w o g a c b h = refl
performed_anywhere Verb.StoreGeneral w o g a c b h = absurd (omega arith)
performed_anywhere Verb.SetMask w o g a c b h = refl
performed_anywhere Verb.Jump w o g a c b h = refl
performed_anywhere Verb.CountDown w o g a c b h = refl
performed_anywhere Verb.Halt w o g a c b h = refl
performed_anywhere (Verb.Sum s) w o g a c b h = refl
performed_anywhere Verb.Multiply w o g a c b h = refl
performed_anywhere Verb.Select w o g a c b h = refl

module _ (o : Order) (g : Registers) (p : ProtectList) (m : List ℕ) (a c : ℕ) where
  -- an order without storage operand has no address
  elsewhere :
      (v : Verb) (w : Width) → stored_as v w ≡ 0 → (b : Words) →
      provided (not (any_protected p a (stored_as v w))) 7 (performed v w o g a b) ≡ provided (not (any_protected p c (stored_as v w))) 7 (performed v w o g c b)
  unfolding any_protected
  elsewhere v w h b = rw (h) (performed_anywhere v w o g a c b h)

  -- an order with one has the same address
  accessed-same : (op : Operation) → stored_as op.verb op.width ≤ span_as op.place op.width → (op.place ≡ Place.Storage → a ≡ c) → accessed o g p m a op ≡ accessed o g p m c op
  unfolding effect_of second_operand present
  accessed-same op h k = cases op.place h k
    where
      v : Verb
      v = op.verb

      w : Width
      w = op.width

      reading : Place → ℕ → Answer Effect
      reading q s =
          provided (present (span_as q w) s (length m)) 6
          (provided (not (any_protected p s (stored_as v w))) 7
          (performed v w o g s (second_operand q w o g.float g.general g.status.selector m s)))

      cases : (q : Place) → stored_as v w ≤ span_as q w → (q ≡ Place.Storage → a ≡ c) → reading q a ≡ reading q c
      cases Place.Nowhere h k = elsewhere v w (omega arith) _
      cases Place.FloatRegister h k = elsewhere v w (omega arith) _
      cases Place.GeneralRegister h k = elsewhere v w (omega arith) _
      cases Place.Storage h k = ap (reading Place.Storage) (k refl)

module _ (o : Order) (none : NoIndex o) (g : Registers) (used : ℕ) (p : ProtectList) (m : List ℕ) (journal : ℕ) where
  judged-same : (op : Operation) → legal_of o ≡ gives op → judged o g used p m (address_in o g) journal op ≡ judged o g used p m o.at journal (unindexed_row op)
  unfolding judged effect_of
  judged-same op legal =
      ap (λ (e : Answer Effect). provided (not (is_halt op.verb)) 12 (provided (ltb used (journal / 4)) 13 e))
      (accessed-same o g p m (address_in o g) o.at op (legal_passed o op legal).stored (λ s. address_plain o g.general g.status.selector (none op (legal-row o op legal).0 s)))

  mapped_then : {A B C : Type 0} (f : A → B) (r : Answer A) (h : B → Answer C) → and_then r (λ x. h (f x)) ≡ and_then (mapped f r) h
  mapped_then f (gives x) h = refl
  mapped_then f (stops n) h = refl

  pub judged_unindexed : judged_at o g used p m journal ≡ unindexed_judged o g used p m journal
  judged_unindexed =
      then_same (legal_of o) (judged o g used p m (address_in o g) journal) (λ op. judged o g used p m o.at journal (unindexed_row op)) judged-same
      ∙ mapped_then unindexed_row (legal_of o) (judged o g used p m o.at journal)
      ∙ rw (legal_unindexed o none)

pub decided_unindexed :
    (d : List ℕ) (p : ProtectList) (k : ℕ) (s : State) (m : List ℕ) (journal : ℕ) → (pointer_of k s < length d / 4 → NoIndex (order_at d (pointer_of k s))) →
    decided d p k s m journal ≡ unindexed_decided d p k s m journal
unfolding decided unindexed_decided
decided_unindexed d p k s m journal none =
    let at = pointer_of k s in
    let o = order_at d at in
    ap (λ (e : Answer Effect). checked (entry_in k (length d) p s (length m) journal) e)
    (provided-same (ltb at (length d / 4)) 4 _ _ (λ t. judged_unindexed o (none (ltb-true at (length d / 4) t)) (registers_of k s) s.used p m journal))
