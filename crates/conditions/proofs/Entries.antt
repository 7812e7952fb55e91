-- The entries of a trail are those of its steps from the start, each of them taken.
use Prim.Native.Nat.{ℕ, zero, suc, ◌≤◌}
use mathlib.Core.Path.{◌≡◌, refl, sym, ap, ◌∙◌}
use mathlib.Core.List.{List, [], ◌∷◌, ◌++◌}
use mathlib.Core.Bool.{Bool, true, false, cond}
use lib.Dec.{eqb}
use lib.ListN.{length, drop}
use native.Mathlib.Omega.{arith}
use Rattle.hexfloat.specs.Answer.{Answer, gives, stops}
use Rattle.protection.specs.Form.{ProtectList}
use Rattle.machine.specs.declared.verdict.Effect.{Effect}
use Rattle.machine.specs.Run.{repeated}
use Rattle.machine.specs.Step.{Outcome, outcome, onward}
use Rattle.conditions.specs.Trail.{Call, step, run, back, Entry, Earlier, Trail, trail, extended, judged_last, entered_last, dropped, step_traced, traced, Reply, reply_of, standing, replies}
use Rattle.conditions.specs.Theorems.{answer, steps, seats}
use Rattle.conditions.proofs.Calls.{forwards, steps_taken, snoc, step_last, reply_last}
use Rattle.conditions.proofs.Links.{Link, Walk}
use Rattle.conditions.proofs.Repeats.{run_repeats}

-- the start of a trail
unfoldable pub first : Entry → List Earlier → Entry
first x [] = x
first x (y ∷ ys) = first y.entry ys

-- the entry that stands k steps back
unfoldable pub at : ℕ → Entry → List Earlier → Entry
at zero x es = x
at (suc k) x [] = x
at (suc k) x (y ∷ ys) = at k y.entry ys

module _ (d : List ℕ) (p : ProtectList) (journal : ℕ) where
  -- no call changes the start
  abbrev Begins : Trail → Outcome Trail → Type 0
  Begins t r = first r.after.last r.after.earlier ≡ first t.last t.earlier

  onward_begins :
      (k : ℕ) (a : Answer Effect) (t : Trail) (f : Trail → Outcome Trail) → ((u : Trail) → Begins u (f u)) → Begins t (onward a t (λ e. extended k e t) f)
  unfolding first
  onward_begins k (stops n) t f rest = refl
  onward_begins k (gives e) t f rest = rest (extended k e t)

  repeated_begins : (k n : ℕ) (t : Trail) → Begins t (repeated (judged_last d p journal k) (λ u e. extended k e u) n t)
  unfolding repeated
  repeated_begins k zero t = refl
  repeated_begins k (suc n) t =
      onward_begins k (judged_last d p journal k t) t (repeated (judged_last d p journal k) (λ u e. extended k e u) n) (repeated_begins k n)

  admitted_begins : (b : Bool) (n : ℕ) (t : Trail) (r : Outcome Trail) → Begins t r → Begins t (cond b r (outcome t 0 n))
  admitted_begins true n t r h = h
  admitted_begins false n t r h = refl

  dropped_begins : (x : Entry) (es : List Earlier) → Begins (trail x es) (dropped p journal x es)
  unfolding first
  dropped_begins x [] = refl
  dropped_begins x (y ∷ ys) = refl

  pub call_begins : (c : Call) (t : Trail) → Begins t (traced d p journal c t)
  unfolding traced step_traced
  call_begins (step k) t = onward_begins k (judged_last d p journal k t) t (λ u. outcome u 0 0) (λ u. refl)
  call_begins (run k n) t =
      admitted_begins (eqb (entered_last d p journal k t) 0) (entered_last d p journal k t) t _ (rw (run_repeats d p journal k n t) (repeated_begins k n t))
  call_begins back t = dropped_begins t.last t.earlier

  pub begins :
      (cs : List Call) (t : Trail) →
      first (standing (traced d p journal) cs t).last (standing (traced d p journal) cs t).earlier ≡ first t.last t.earlier
  unfolding standing
  begins [] t = refl
  begins (c ∷ cs) t = begins cs (traced d p journal c t).after ∙ call_begins c t

  -- the step of a link
  link_step :
      (j : List ℕ) (x : Entry) (y : Earlier) (ys : List Earlier) → Link d p journal j x y.seat y.entry →
      traced d p journal (step y.seat) (trail y.entry ys) ≡ outcome (trail x (y ∷ ys)) 1 0
  unfolding traced step_traced
  link_step j x y ys l = rw (l.taken, l.advances)

  -- as many steps from the start, by the same seats
  pub entries :
      (j : List ℕ) (x : Entry) (es : List Earlier) → Walk d p journal j x es → standing (traced d p journal) (forwards es) (trail (first x es) []) ≡ trail x es
  unfolding Walk first standing steps seats
  entries j x [] w = refl
  entries j x (y ∷ ys) w =
      step_last (traced d p journal) y ys (trail (first y.entry ys) [])
      ∙ ap (λ (t : Trail). (traced d p journal (step y.seat) t).after) (entries j y.entry ys w.2)
      ∙ ap (λ (r : Outcome Trail). r.after) (link_step j x y ys w.0)

  pub entries_taken :
      (j : List ℕ) (x : Entry) (es : List Earlier) → Walk d p journal j x es → replies (traced d p journal) (forwards es) (trail (first x es) []) ≡ steps_taken (length es)
  unfolding Walk first replies steps seats
  entries_taken j x [] w = refl
  entries_taken j x (y ∷ ys) w =
      let start = trail (first y.entry ys) [] in
      let last = reply_of (traced d p journal (step y.seat) (standing (traced d p journal) (forwards ys) start)) in
      reply_last (traced d p journal) y ys start
      ∙ ap (λ (l : List Reply). l ++ (last ∷ [])) (entries_taken j y.entry ys w.2)
      ∙ ap (λ (t : Trail). steps_taken (length ys) ++ (reply_of (traced d p journal (step y.seat) t) ∷ [])) (entries j y.entry ys w.2)
      ∙ ap (λ (r : Outcome Trail). steps_taken (length ys) ++ (reply_of r ∷ [])) (link_step j x y ys w.0)
      ∙ sym (snoc (answer 1 0) (length ys))

  -- what stands before the last k steps
  walk_drop : (j : List ℕ) (k : ℕ) (x : Entry) (es : List Earlier) → k ≤ length es → Walk d p journal j x es → Walk d p journal j (at k x es) (drop k es)
  unfolding Walk at
  walk_drop j zero x es h w = w
  walk_drop j (suc k) x [] h w = absurd (omega arith)
  walk_drop j (suc k) x (y ∷ ys) h w = walk_drop j k y.entry ys (omega arith) w.2

  first_drop : (k : ℕ) (x : Entry) (es : List Earlier) → k ≤ length es → first (at k x es) (drop k es) ≡ first x es
  unfolding first at
  first_drop zero x es h = refl
  first_drop (suc k) x [] h = absurd (omega arith)
  first_drop (suc k) x (y ∷ ys) h = first_drop k y.entry ys (omega arith)

  -- fewer steps: the entry that stands so far back
  pub prefix :
      (j : List ℕ) (x : Entry) (es : List Earlier) → Walk d p journal j x es → (k : ℕ) → k ≤ length es →
      (standing (traced d p journal) (forwards (drop k es)) (trail (first x es) [])).last ≡ at k x es
  prefix j x es w k h =
      ap (λ (z : Entry). (standing (traced d p journal) (forwards (drop k es)) (trail z [])).last) (sym (first_drop k x es h))
      ∙ ap (λ (t : Trail). t.last) (entries j (at k x es) (drop k es) (walk_drop j k x es h w))
