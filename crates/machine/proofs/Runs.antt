-- Steps, one at a time.
use Rattle.std.proofs.Common.{◌≡◌, ℕ, suc, ◌+◌, ◌-◌, ◌<◌, ◌≤◌, List, length, sym, refl, ap, ◌∙◌, add-zero, arith, ne_eqb}
use Rattle.hexfloat.specs.Answer.{Answer, gives, stops}
use Rattle.protection.specs.Form.{ProtectList}
use Rattle.machine.specs.declared.verdict.Effect.{Effect}
use Rattle.machine.specs.Decide.{decided}
use Rattle.machine.specs.Machine.{Machine, committed}
use Rattle.machine.specs.Run.{repeated, steps_of, entry_of}
use Rattle.machine.specs.Step.{Outcome, outcome, single, counted, onward, verdict_of, stepped}
use Rattle.hexfloat.proofs.Answers.{StopsBy}
use Rattle.machine.proofs.Refusals.{decided_by}

-- an outcome with n steps before it
abbrev pub grown : {W : Type 0} → ℕ → Outcome W → Outcome W
grown n r = record { after = r.after; taken = n + r.taken; stop = r.stop; whose = r.whose }

module _ (d : List ℕ) (p : ProtectList) (k : ℕ) where
  -- a step that is taken, and what is left of the limit
  step_on : (n : ℕ) (x : Machine) (e : Effect) → verdict_of d p k x ≡ gives e → steps_of d p k (suc n) x ≡ counted (steps_of d p k n (committed k e x))
  unfolding repeated
  step_on n x e h = rw h

  -- a step that is stopped
  step_stop : (n stop : ℕ) (x : Machine) → verdict_of d p k x ≡ stops stop → steps_of d p k (suc n) x ≡ outcome x 0 stop
  unfolding repeated
  step_stop n stop x h = rw h

  -- the limit is reached
  steps_none : (n : ℕ) (x : Machine) → n ≡ 0 → steps_of d p k n x ≡ outcome x 0 0
  unfolding repeated
  steps_none n x h = rw h

  -- checks 1 to 3 are the first of a step too
  pub entry_stops : (x : Machine) → (entry_of d p k x ≡ 0 → ⊥) → verdict_of d p k x ≡ stops (entry_of d p k x)
  unfolding decided
  entry_stops x h = rw (ne_eqb (entry_of d p k x) 0 h)

  -- at most one step is a step
  at_most_one : (x : Machine) → steps_of d p k 1 x ≡ stepped d p k x
  unfolding repeated stepped
  at_most_one x = refl

  -- a step counts as one exactly where its answer is 0
  stepped-single : (x : Machine) → stepped d p k x ≡ single (stepped d p k x).after (stepped d p k x).stop
  unfolding stepped
  stepped-single x = cases (verdict_of d p k x) (decided_by (λ n. 1 ≤ n) (λ n l u. l) d p k x.state x.memory (length x.journal) (λ h. omega arith))
    where
      cases :
          (a : Answer Effect) → StopsBy (λ n. 1 ≤ n) a →
          (let r = onward a x (λ e. committed k e x) (λ y. outcome y 0 0) in r ≡ single r.after r.stop)
      cases (gives e) s = refl
      cases (stops n) s = rw (ne_eqb n 0 (λ z. omega (arith, s)))

  pub one_step : (x y : Machine) (n stop : ℕ) → outcome y n stop ≡ steps_of d p k 1 x → single y stop ≡ stepped d p k x
  one_step x y n stop h =
      let e : outcome y n stop ≡ stepped d p k x = h ∙ at_most_one x in
      let after : y ≡ (stepped d p k x).after = ap (λ (r : Outcome Machine). r.after) e in
      let ends : stop ≡ (stepped d p k x).stop = ap (λ (r : Outcome Machine). r.stop) e in
      ap (λ (z : Machine). single z stop) after ∙ ap (λ (i : ℕ). single (stepped d p k x).after i) ends ∙ sym (stepped-single x)

-- a loop of steps: x and count are what the first count steps from start lead to
pub record Under (d : List ℕ) (p : ProtectList) (k limit : ℕ) (start x : Machine) (count : ℕ) : Type 0 where
  pub same : steps_of d p k limit start ≡ grown count (steps_of d p k (limit - count) x)
  pub within : count ≤ limit
  pub memory : length x.memory ≡ length start.memory
  pub journal : length x.journal ≡ length start.journal

module _ (d : List ℕ) (p : ProtectList) (k limit : ℕ) (start : Machine) where
  module _ (x : Machine) (count : ℕ) (u : Under d p k limit start x count) where
    left_over : count < limit → limit - count ≡ suc (limit - (count + 1))
    left_over h = omega arith

    pub under_on :
        (e : Effect) (y : Machine) → count < limit → verdict_of d p k x ≡ gives e → y ≡ committed k e x →
        length y.memory ≡ length x.memory → length y.journal ≡ length x.journal → Under d p k limit start y (count + 1)
    under_on e y h v s m j =
        let n = limit - (count + 1) in
        let on : steps_of d p k (limit - count) x ≡ counted (steps_of d p k n y) = rw (left_over h, s) (step_on d p k n x e v) in
        let sum : count + ((steps_of d p k n y).taken + 1) ≡ count + 1 + (steps_of d p k n y).taken = omega arith in
        record {
          same = u.same ∙ rw (on, sum);
          within = omega arith;
          memory = m ∙ u.memory;
          journal = j ∙ u.journal;
        }

    pub under_stop : (stop : ℕ) → count < limit → verdict_of d p k x ≡ stops stop → steps_of d p k limit start ≡ outcome x count stop
    under_stop stop h v =
        let ends : steps_of d p k (limit - count) x ≡ outcome x 0 stop = rw (left_over h) (step_stop d p k (limit - (count + 1)) stop x v) in
        u.same ∙ rw (ends, add-zero)

  pub under_end : (x : Machine) (count : ℕ) → Under d p k limit start x count → limit ≤ count → count ≤ limit → steps_of d p k limit start ≡ outcome x limit 0
  under_end x count u h l =
      let e : count ≡ limit = omega arith in
      u.same ∙ rw (steps_none d p k (limit - count) x (omega arith), add-zero, e)
