-- Steps and back steps over protect lists that say the same of memory's halfwords.
use Rattle.std.proofs.Common.{◌≡◌, ℕ, zero, suc, ◌+◌, ◌-◌, ◌/◌, ◌≤◌, Bool, true, not, eqb, ltb, List, length, refl, ap, ◌∙◌, arith, leb-true}
use Rattle.hexfloat.specs.Answer.{Answer, gives, provided, checked, and_then}
use Rattle.orders.specs.declared.order.Operation.{Operation}
use Rattle.orders.specs.declared.order.Order.{Order}
use Rattle.orders.specs.Order.{legal_of, span_of, stored_of, is_halt, order_at}
use Rattle.protection.specs.Form.{ProtectList, covers}
use Rattle.protection.specs.Theorems.{Alike}
use Rattle.machine.specs.declared.change.Change.{Change}
use Rattle.machine.specs.declared.state.State.{State}
use Rattle.machine.specs.declared.state.Status.{Status}
use Rattle.machine.specs.declared.verdict.Effect.{Effect}
use Rattle.machine.specs.Back.{allowed, returning}
use Rattle.machine.specs.Change.{placed, guarded}
use Rattle.machine.specs.Check.{buffers_sized, present, any_protected}
use Rattle.machine.specs.Decide.{held_stop, entry_stop, held_in, entry_in, accessed, judged, judged_at, pointer_of, decided}
use Rattle.machine.specs.Effect.{effect_of}
use Rattle.machine.specs.Journal.{record_at, decoded}
use Rattle.machine.specs.Operand.{address_in}
use Rattle.machine.specs.Seats.{registers_of}
use Rattle.hexfloat.proofs.Answers.{provided-same, checked-same, then_same}
use Rattle.machine.proofs.Checks.{held, entered, reach, present_fewer}
use Rattle.machine.proofs.Rows.{legal_passed}

module _ (p q : ProtectList) (memory : ℕ) (same : Alike memory p q) where
  -- checks 20 and 1 to 3
  held_alike : (s other : Status) (used journal : ℕ) → held_stop p s other used memory journal ≡ held_stop q s other used memory journal
  unfolding held_stop buffers_sized
  held_alike s other used journal = rw same.length_alike

  pub entry_alike :
      (k deck : ℕ) (s other : Status) (used journal : ℕ) → entry_stop k deck p s other used memory journal ≡ entry_stop k deck q s other used memory journal
  unfolding entry_stop
  entry_alike k deck s other used journal = rw (held_alike s other used journal)

  module _ (cover : covers p memory ≡ true) where
    -- halfwords that are there
    any_within : (n a : ℕ) → a + n ≤ memory → any_protected p a n ≡ any_protected q a n
    unfolding any_protected
    any_within zero a h = refl
    any_within (suc n) a h = rw (same.bits_alike cover a (omega arith), any_within n (a + 1) (omega arith))

    -- check 7, where check 6 passes
    pub any_alike : (n a : ℕ) → present n a memory ≡ true → any_protected p a n ≡ any_protected q a n
    unfolding any_protected
    any_alike zero a h = refl
    any_alike (suc n) a h = any_within (suc n) a (reach (suc n) a memory h (omega arith))

    guarded_alike : (ch : Change) → placed ch memory ≡ true → guarded p ch ≡ guarded q ch
    unfolding placed guarded
    guarded_alike Change.Nothing h = refl
    guarded_alike (Change.Float r w) h = refl
    guarded_alike (Change.Pair r x y) h = refl
    guarded_alike (Change.General r w) h = refl
    guarded_alike (Change.Two a w) h = any_within 2 a (leb-true (a + 2) memory h)
    guarded_alike (Change.Four a x y) h = any_within 4 a (leb-true (a + 4) memory h)

    allowed_alike : (e : Effect) → allowed e p memory ≡ allowed e q memory
    unfolding allowed
    allowed_alike e = provided-same (placed e.change memory) 15 _ _ (λ t. ap (λ (b : Bool). provided (not b) 15 (gives e)) (guarded_alike e.change t))

  -- what record used - 1 puts back
  pub returning_alike : (s : State) (j : List ℕ) → returning p s memory j ≡ returning q s memory j
  unfolding returning
  returning_alike s j =
      checked-same (held_in p s memory (length j)) (further p) (further q) passed
      ∙ ap (λ (k : ℕ). checked k (further q)) (held_alike s.seat0.status s.seat1.status s.used (length j))
    where
      further : ProtectList → Answer Effect
      further l = provided (not (eqb s.used 0)) 14 (and_then (decoded (record_at j (s.used - 1))) (λ e. allowed e l memory))

      passed : held_in p s memory (length j) ≡ 0 → further p ≡ further q
      passed z =
          let cover = (held p s.seat0.status s.seat1.status s.used memory (length j) z).cover in
          ap (provided (not (eqb s.used 0)) 14)
          (then_same (decoded (record_at j (s.used - 1))) (λ e. allowed e p memory) (λ e. allowed e q memory) (λ e h. allowed_alike cover e))

module _ (d : List ℕ) (p q : ProtectList) (k : ℕ) (s : State) (m : List ℕ) (journal : ℕ) (same : Alike (length m) p q) where
  -- checks 6 and 7 of a legal order, and its effect
  accessed_alike : covers p (length m) ≡ true → (o : Order) (a : ℕ) (op : Operation) → legal_of o ≡ gives op → accessed o (registers_of k s) p m a op ≡ accessed o (registers_of k s) q m a op
  accessed_alike cover o a op legal =
      provided-same (present (span_of op) a (length m)) 6 _ _
      (λ there. ap (λ (b : Bool). provided (not b) 7 (effect_of op o (registers_of k s) m a))
      (any_alike p q (length m) same cover (stored_of op) a (present_fewer (stored_of op) (span_of op) a (length m) (legal_passed o op legal).stored there)))

  -- a step's checks and its effect
  pub decided_alike : decided d p k s m journal ≡ decided d q k s m journal
  unfolding decided judged
  decided_alike =
      checked-same (stop p) (further p) (further q) passed
      ∙ ap (λ (n : ℕ). checked n (further q)) (entry_alike p q (length m) same k (length d) s.seat0.status s.seat1.status s.used journal)
    where
      stop : ProtectList → ℕ
      stop l = entry_in k (length d) l s (length m) journal

      o : Order
      o = order_at d (pointer_of k s)

      a : ℕ
      a = address_in o (registers_of k s)

      further : ProtectList → Answer Effect
      further l = provided (ltb (pointer_of k s) (length d / 4)) 4 (judged_at o (registers_of k s) s.used l m journal)

      passed : stop p ≡ 0 → further p ≡ further q
      passed z =
          let e = entered p s.seat0.status s.seat1.status s.used (length m) journal k (length d) z in
          let cover = (held p s.seat0.status s.seat1.status s.used (length m) journal e.passes).cover in
          ap (provided (ltb (pointer_of k s) (length d / 4)) 4)
          (then_same (legal_of o) (judged o (registers_of k s) s.used p m a journal) (judged o (registers_of k s) s.used q m a journal)
          (λ op legal. ap (λ (x : Answer Effect). provided (not (is_halt op.verb)) 12 (provided (ltb s.used (journal / 4)) 13 x)) (accessed_alike cover o a op legal)))
