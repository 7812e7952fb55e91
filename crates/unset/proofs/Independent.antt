-- Where nothing is found, no run from the start depends on what the registers held there: two runs stay alike step by step.
use Prim.Native.Nat.{ℕ, zero, suc, ◌+◌}
use mathlib.Core.Path.{◌≡◌, refl, sym, ap, subst, ◌∙◌}
use mathlib.Core.List.{List}
use mathlib.Core.Logic.{inl, inr, ⊎_elim}
use mathlib.Core.Bool.{Bool, true, false, cond}
use lib.Dec.{eqb}
use lib.ListN.{length}
use native.Mathlib.Omega.{arith}
use Rattle.hexfloat.specs.Answer.{Answer, gives, stops}
use Rattle.hexfloat.proofs.Answers.{never}
use Rattle.protection.specs.Form.{ProtectList}
use Rattle.machine.specs.declared.verdict.Effect.{Effect}
use Rattle.machine.specs.Check.{deck_sized}
use Rattle.machine.specs.Decide.{entry_stop}
use Rattle.machine.specs.Machine.{Machine, committed}
use Rattle.machine.specs.Run.{repeated, steps_of, admitted, entry_of, ran}
use Rattle.machine.specs.Step.{Outcome, outcome, counted, onward, verdict_of}
use Rattle.machine.proofs.Seats.{entry_own}
use Rattle.conditions.proofs.Leaves.{stop_number}
use Rattle.unset.specs.Answer.{Finding, nothing, Checked, Answers, wrong_size, illegal, none, lowest}
use Rattle.unset.specs.Path.{begins, ReachedUnwritten}
use Rattle.unset.specs.Theorems.{AlikeAtStart, AlikeRuns}
use Rattle.unset.proofs.Alike.{NoneUnset, Alike, step_alike, alike_on}

-- what the answer says
nothing_found : (d : List ℕ) {a : Answer Finding} → Answers d a → a ≡ gives nothing → Checked d × NoneUnset d
nothing_found d (wrong_size e) h = never h
nothing_found d (illegal f q l i) h = never h
nothing_found d (none c n) h = (c, n)
nothing_found d (lowest c l) h = absurd (let z : ◌≡◌ {A = ℕ} 0 1 = cc in omega arith)

module _ (d : List ℕ) (p : ProtectList) (seat : ℕ) (x y : Machine) (sized : deck_sized (length d) ≡ true) (clear : NoneUnset d) where
  -- where they end, with as many steps and the same stop
  ended : (u v : Machine) (n k l : ℕ) → Alike d seat x y u v → k ≡ l → AlikeRuns seat x y (outcome u n k) (outcome v n l)
  ended u v n k l h e = record {
    taken = refl;
    stop = e;
    status = h.status;
    used = h.used;
    memory = h.memory;
    registers = λ r. ⊎_elim inl (λ w. inr w.1) (h.registers r);
  }

  -- one step more before
  more : (a b : Outcome Machine) → AlikeRuns seat x y a b → AlikeRuns seat x y (counted a) (counted b)
  more a b h = record {
    taken = ap (λ (n : ℕ). n + 1) h.taken;
    stop = h.stop;
    status = h.status;
    used = h.used;
    memory = h.memory;
    registers = h.registers;
  }

  -- at every limit: a step of each is taken, or each is stopped by the same number
  steps_alike : (n : ℕ) (u v : Machine) → Alike d seat x y u v → AlikeRuns seat x y (steps_of d p seat n u) (steps_of d p seat n v)
  unfolding repeated
  steps_alike zero u v k = ended u v 0 0 0 k refl
  steps_alike (suc n) u v k = cases (steps_alike n) (verdict_of d p seat u) (verdict_of d p seat v) refl refl
    where
      cases :
          ((w z : Machine) → Alike d seat x y w z → AlikeRuns seat x y (steps_of d p seat n w) (steps_of d p seat n z)) → (a b : Answer Effect) → verdict_of d p seat u ≡ a →
          verdict_of d p seat v ≡ b → AlikeRuns seat x y (onward a u (λ e. committed seat e u) (steps_of d p seat n)) (onward b v (λ e. committed seat e v) (steps_of d p seat n))
      cases rest (stops i) (stops j) s t = ended u v 0 i j k (step_alike d p seat x y sized clear u v (stops i) (stops j) k s t).stop
      cases rest (stops i) (gives f) s t = absurd (stop_number d p seat u i s (step_alike d p seat x y sized clear u v (stops i) (gives f) k s t).stop)
      cases rest (gives e) (stops j) s t = absurd (stop_number d p seat v j t (sym (step_alike d p seat x y sized clear u v (gives e) (stops j) k s t).stop))
      cases rest (gives e) (gives f) s t =
          let both = rest (committed seat e u) (committed seat f v) (alike_on d p seat x y sized clear u v e f k s t) in
          more (steps_of d p seat n (committed seat e u)) (steps_of d p seat n (committed seat f v)) both

  -- at the start any register may differ
  alike_start : AlikeAtStart seat x y → Alike d seat x y x y
  alike_start h = record {
    typed = h.typed;
    typed_too = h.typed_too;
    status = h.status;
    beside = h.beside;
    used = h.used;
    memory = h.memory;
    room = h.room;
    registers = λ r. inr (subst (ReachedUnwritten d r) (sym h.at_start) (record { path = begins; unwritten = tt }), (refl, refl));
  }

  -- checks 20 and 1 to 3 look at no register
  entry-same : AlikeAtStart seat x y → entry_of d p seat x ≡ entry_of d p seat y
  entry-same h =
      entry_own d p seat x.state x.memory (length x.journal)
      ∙ (λ i. entry_stop seat (length d) p (h.status i) (h.beside i) (h.used i) (length (h.memory i)) (h.room i))
      ∙ sym (entry_own d p seat y.state y.memory (length y.journal))

  runs_alike : (limit : ℕ) → AlikeAtStart seat x y → AlikeRuns seat x y (ran d p seat limit x) (ran d p seat limit y)
  unfolding ran
  runs_alike limit h =
      subst (λ (k : ℕ). AlikeRuns seat x y (admitted (entry_of d p seat x) x (steps_of d p seat limit x)) (admitted k y (steps_of d p seat limit y))) (entry-same h)
      (cases (eqb (entry_of d p seat x) 0))
    where
      at : Bool → Machine → Outcome Machine
      at b z = cond b (steps_of d p seat limit z) (outcome z 0 (entry_of d p seat x))

      cases : (b : Bool) → AlikeRuns seat x y (at b x) (at b y)
      cases true = steps_alike limit x y (alike_start h)
      cases false = ended x y 0 (entry_of d p seat x) (entry_of d p seat x) (alike_start h) refl

pub nothing_unset :
    (d : List ℕ) (p : ProtectList) (seat : ℕ) (x y : Machine) (limit : ℕ) → Answers d (gives nothing) → AlikeAtStart seat x y →
    AlikeRuns seat x y (ran d p seat limit x) (ran d p seat limit y)
nothing_unset d p seat x y limit a h = let q = nothing_found d a refl in runs_alike d p seat x y q.0.sized q.1 limit h
