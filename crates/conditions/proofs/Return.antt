-- Condition 3 in its own words: back steps find what stood before, steps find it again, and a back step is refused exactly where no step stands.
use Prim.Native.Nat.{ℕ, zero, suc, ◌<◌, ◌≤◌}
use mathlib.Core.Path.{◌≡◌, refl, sym, ap, subst, ◌∙◌}
use mathlib.Core.List.{List, [], ◌∷◌, ◌++◌}
use lib.ListN.{length, take, drop}
use native.Mathlib.Omega.{arith}
use Rattle.hexfloat.specs.Answer.{gives}
use Rattle.protection.specs.Form.{ProtectList}
use Rattle.machine.specs.declared.verdict.Effect.{Effect}
use Rattle.machine.specs.Decide.{decided}
use Rattle.machine.specs.Machine.{Machine, committed}
use Rattle.machine.specs.Step.{Outcome, outcome, stepped}
use Rattle.conditions.specs.Trail.{Call, step, back, Entry, Earlier, trail, entry_after, held_at, dropped, traced, called, Reply, reply_of, standing, replies, Behind}
use Rattle.conditions.specs.Theorems.{Typed, whole_of, start_of, machine_after, trail_after, standing_after, steps_after, steps, seats, undoings, answer, Included, BackAndForth, RefusedAtStart}
use Rattle.conditions.proofs.Calls.{backs, forwards, steps_taken, snoc, step_last, reply_last, covered_append}
use Rattle.conditions.proofs.Counted.{some_number}
use Rattle.conditions.proofs.Entries.{at}
use Rattle.conditions.proofs.Links.{Link, Walk}
use Rattle.conditions.proofs.Trail.{Good, Same, trail_of, call_same, good_new, from, steps_covered, stood_entry}

module _ (d : List ℕ) (p : ProtectList) (journal base : ℕ) where
  -- one back step where an entry stands before
  back_one :
      (x : Machine) (e : Earlier) (es : List Earlier) → Good d p journal base x (e ∷ es) →
      Same d p journal base (called d p back x) (traced d p journal back (trail_of x (e ∷ es)))
  back_one x e es g = call_same d p journal base back x (e ∷ es) g (λ b. never b.alone)
    where
      never : e ∷ es ≡ [] → ⊥
      never h = let z : ◌≡◌ {A = ℕ} 0 1 = cc in omega arith

  -- k back steps, each taken, and whose step each of them took back
  pub record Went (k : ℕ) (x : Machine) (es : List Earlier) : Type 0 where
    pub finds : whole_of (standing (called d p) (backs k) x) ≡ at k (whole_of x) es
    pub answers : replies (called d p) (backs k) x ≡ undoings (take k es)

  went : (k : ℕ) (x : Machine) (es : List Earlier) → Good d p journal base x es → k ≤ length es → Went k x es
  unfolding standing replies traced at undoings
  went zero x es g h = record { finds = refl; answers = refl }
  went (suc k) x [] g h = absurd (omega arith)
  went (suc k) x (e ∷ es) g h =
      let s = back_one x e es g in
      let r = called d p back x in
      let w = went k r.after es s.good (omega arith) in
      record {
        finds = w.finds ∙ ap (λ (z : Entry). at k z es) (sym s.last);
        answers = rw (s.taken, s.stop, s.whose, w.answers);
      }

  -- a step from where the entry after it is known
  step_again :
      (k : ℕ) (w : Machine) (es : List Earlier) → Good d p journal base w es → (new : Effect) → decided d p k w.state w.memory journal ≡ gives new →
      called d p (step k) w ≡ outcome (committed k new w) 1 0
  unfolding called stepped
  step_again k w es g new t = rw (g.size, t)

  -- k back steps, and the steps that they took back from there, each taken
  pub record Round (k : ℕ) (x : Machine) (es : List Earlier) : Type 0 where
    pub finds : whole_of (standing (called d p) (forwards (take k es)) (standing (called d p) (backs k) x)) ≡ whole_of x
    pub good : Good d p journal base (standing (called d p) (forwards (take k es)) (standing (called d p) (backs k) x)) es
    pub answers : replies (called d p) (forwards (take k es)) (standing (called d p) (backs k) x) ≡ steps_taken k

  -- one more of each, around the others
  module _ (k : ℕ) (x : Machine) (e : Earlier) (es : List Earlier) (g : Good d p journal base x (e ∷ es)) where
    -- after the first back step, after all of them, and after k steps from there
    r : Machine
    r = (called d p back x).after

    z : Machine
    z = standing (called d p) (backs k) r

    w : Machine
    w = standing (called d p) (forwards (take k es)) z

    link : Link d p journal x.journal (whole_of x) e.seat e.entry
    unfolding Walk
    link = g.walk.0

    abbrev new : Effect
    new = link.new

    abbrev seat : ℕ
    seat = e.seat

    back_at : whole_of r ≡ e.entry
    unfolding traced r
    back_at = sym (back_one x e es g).last

    back_good : Good d p journal base r es
    unfolding traced r
    back_good = (back_one x e es g).good

    module _ (i : Round k r es) where
      here : whole_of w ≡ e.entry
      unfolding w z
      here = i.finds ∙ back_at

      good : Good d p journal base w es
      unfolding w z
      good = i.good

      decides : decided d p seat w.state w.memory journal ≡ gives new
      decides = subst (λ (y : Entry). decided d p seat y.state y.memory journal ≡ gives new) (sym here) link.taken

      again : called d p (step seat) w ≡ outcome (committed seat new w) 1 0
      again = step_again seat w es good new decides

      stands : standing (called d p) (forwards (take (suc k) (e ∷ es))) (standing (called d p) (backs (suc k)) x) ≡ committed seat new w
      unfolding standing r z w
      stands = step_last (called d p) e (take k es) z ∙ ap (λ (o : Outcome Machine). o.after) again

      answered : replies (called d p) (forwards (take (suc k) (e ∷ es))) (standing (called d p) (backs (suc k)) x) ≡ steps_taken (suc k)
      unfolding standing r z w
      answered =
          reply_last (called d p) e (take k es) z
          ∙ ap (λ (l : List Reply). l ++ (reply_of (called d p (step seat) w) ∷ [])) i.answers
          ∙ ap (λ (o : Outcome Machine). steps_taken k ++ (reply_of o ∷ [])) again
          ∙ sym (snoc (answer 1 0) k)

      round_on : Round (suc k) x (e ∷ es)
      round_on = record {
        finds = ap whole_of stands ∙ ap (entry_after seat new) here ∙ link.advances;
        good = subst (λ (y : Machine). Good d p journal base y (e ∷ es)) (sym stands)
            (subst (λ (y : Entry). Good d p journal base (committed seat new w) (record { entry = y; seat = seat } ∷ es)) here (good_new d p journal base w es seat new good decides));
        answers = answered;
      }

  round : (k : ℕ) (x : Machine) (es : List Earlier) → Good d p journal base x es → k ≤ length es → Round k x es
  unfolding standing replies r steps seats
  round zero x es g h = record { finds = refl; good = g; answers = refl }
  round (suc k) x [] g h = absurd (omega arith)
  round (suc k) x (e ∷ es) g h = round_on k x e es g (round k (called d p back x).after es (back_good k x e es g) (omega arith))

-- the answer of the trail's back step is a stop only with the start alone
alone_stops : (journal : ℕ) (p : ProtectList) (x : Entry) (es : List Earlier) → length es ≡ 0 → (dropped p journal x es).stop ≡ 0 → ⊥
alone_stops journal p x [] h = some_number (held_at p journal x)
alone_stops journal p x (e ∷ es) h = absurd (omega arith)

before_takes : (journal : ℕ) (p : ProtectList) (x : Entry) (es : List Earlier) → 0 < length es → (dropped p journal x es).stop ≡ 0
before_takes journal p x [] h = absurd (omega arith)
before_takes journal p x (e ∷ es) h = refl

-- after a list of calls that condition 3 covers
module _ (d : List ℕ) (p : ProtectList) (x : Machine) (cs : List Call) (typed : Typed x.memory) where
  -- what all steps but the last k from the start lead to
  stood :
      Included d p x cs → (k : ℕ) → k ≤ steps_after d p cs x →
      whole_of (machine_after d p (forwards (drop k (standing_after d p cs x))) x) ≡ at k (trail_after d p cs x).last (standing_after d p cs x)
  stood v k h =
      let fewer = drop k (standing_after d p cs x) in
      (from d p (forwards fewer) x typed (steps_covered d p (length x.journal) (seats fewer) (start_of x))).last ∙ stood_entry d p cs x typed v k h

  pub back_and_forth : (k : ℕ) → Included d p x cs → k ≤ steps_after d p cs x → BackAndForth d p x cs k
  back_and_forth k v h =
      let es = standing_after d p cs x in
      let y = machine_after d p cs x in
      let f = from d p cs x typed v in
      let w = went d p (length x.journal) x.state.used k y es f.good h in
      let r = round d p (length x.journal) x.state.used k y es f.good h in
      record {
        backs = w.answers;
        found = w.finds ∙ ap (λ (z : Entry). at k z es) f.last ∙ sym (stood v k h);
        forward = r.answers;
        again = r.finds;
      }

  pub refused_at_start : Included d p x (cs ++ (back ∷ [])) → RefusedAtStart d p x cs
  unfolding traced
  refused_at_start v =
      let t = trail_after d p cs x in
      let y = machine_after d p cs x in
      let w = covered_append d p (length x.journal) back cs (start_of x) v in
      let f = from d p cs x typed w.0 in
      let c = subst (λ (z : Entry). Behind p (length x.journal) (trail z t.earlier) → ⊥) (sym f.last) w.1 in
      let s = (call_same d p (length x.journal) x.state.used back y t.earlier f.good c).stop in
      record {
        refused = λ n e. alone_stops (length x.journal) p (whole_of y) t.earlier n (sym s ∙ e);
        taken = λ n. s ∙ before_takes (length x.journal) p (whole_of y) t.earlier n;
      }
