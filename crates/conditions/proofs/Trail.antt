-- Condition 3: after every list of calls the machine is where the trail is.
use Prim.Native.Nat.{ℕ, zero, suc, ◌+◌, ◌<◌, ◌≤◌}
use mathlib.Core.Path.{◌≡◌, refl, sym, ap, subst, ◌∙◌}
use mathlib.Core.List.{List, [], ◌∷◌}
use mathlib.Core.Bool.{Bool, true, false, cond, not}
use lib.Dec.{eqb}
use lib.ListN.{length, drop}
use native.Mathlib.Nat.{add-zero}
use native.Mathlib.Omega.{arith}
use borrow.Author.Tests.{eqb-true, eqb-false}
use Rattle.hexfloat.specs.Answer.{Answer, gives, stops, provided, checked}
use Rattle.protection.specs.Form.{ProtectList}
use Rattle.machine.specs.declared.verdict.Effect.{Effect}
use Rattle.machine.specs.Back.{returning, backed}
use Rattle.machine.specs.Decide.{entry_in, decided}
use Rattle.machine.specs.Machine.{Machine, committed}
use Rattle.machine.specs.Run.{repeated, admitted, ran}
use Rattle.machine.specs.Step.{Outcome, outcome, onward, verdict_of, stepped}
use Rattle.conditions.specs.Trail.{Call, step, run, back, Entry, Earlier, earlier, Trail, trail, extended, judged_last, held_at, dropped, step_traced, traced, called, standing, replies, Behind, Covered, AllCovered}
use Rattle.conditions.specs.Theorems.{Typed, whole_of, start_of, machine_after, trail_after, standing_after, steps_after, steps, seats_after, Included, AsTrail}
use Rattle.conditions.proofs.Calls.{forwards, steps_taken}
use Rattle.conditions.proofs.Entries.{first, at, call_begins, begins, entries, entries_taken, prefix}
use Rattle.conditions.proofs.Counted.{counted_said}
use Rattle.conditions.proofs.Links.{Kept, Walk, kept_new, size_new, walk_new}
use Rattle.conditions.proofs.Repeats.{run_repeats}

-- the trail whose last entry is where the machine is
abbrev pub trail_of : Machine → List Earlier → Trail
trail_of x es = trail (whole_of x) es

-- checks 2, 3 and 14 where nothing is left to put back
first_check :
    (k used : ℕ) (rest : Answer Effect) → (k ≡ 0 → 0 < used → ⊥) →
    checked k (provided (not (eqb used 0)) 14 rest) ≡ stops (cond (eqb k 0) 14 k)
first_check k used rest h = cases (eqb k 0) (eqb used 0) refl refl
  where
    cases : (a b : Bool) → eqb k 0 ≡ a → eqb used 0 ≡ b → provided a k (provided (not b) 14 rest) ≡ stops (cond a 14 k)
    cases true true e f = refl
    cases true false e f = absurd (h (eqb-true k 0 e) (some (eqb-false used 0 f)))
      where
        some : (used ≡ 0 → ⊥) → 0 < used
        some z = omega arith
    cases false b e f = refl

module _ (d : List ℕ) (p : ProtectList) (journal base : ℕ) where
  -- a machine and the entries before where it is; base is the used count at the start
  pub record Good (x : Machine) (es : List Earlier) : Type 0 where
    pub kept : Kept (whole_of x)
    pub size : length x.journal ≡ journal
    pub used : x.state.used ≡ base + length es
    pub walk : Walk d p journal x.journal (whole_of x) es

  -- an outcome of the machine and one of the trail
  pub record Same (r : Outcome Machine) (u : Outcome Trail) : Type 0 where
    pub last : u.after.last ≡ whole_of r.after
    pub taken : r.taken ≡ u.taken
    pub stop : r.stop ≡ u.stop
    pub whose : r.whose ≡ u.whose
    pub good : Good r.after u.after.earlier

  here : (x : Machine) (es : List Earlier) (n k : ℕ) → Good x es → Same (outcome x n k) (outcome (trail_of x es) n k)
  here x es n k g = record { last = refl; taken = refl; stop = refl; whose = refl; good = g }

  pub good_new :
      (x : Machine) (es : List Earlier) (k : ℕ) (e : Effect) → Good x es → decided d p k x.state x.memory journal ≡ gives e → Good (committed k e x) (earlier k (whole_of x) ∷ es)
  good_new x es k e g t = record {
    kept = kept_new d p journal x g.size g.kept k e t;
    size = size_new d p journal x g.size g.kept k e t;
    used = omega (arith, g.used);
    walk = walk_new d p journal x g.size g.kept k e t es g.walk;
  }

  -- one step, and whatever follows it in both
  onward-same :
      (k : ℕ) (x : Machine) (es : List Earlier) → Good x es → (f : Machine → Outcome Machine) (h : Trail → Outcome Trail) →
      ((y : Machine) (fs : List Earlier) → Good y fs → Same (f y) (h (trail_of y fs))) →
      Same (onward (verdict_of d p k x) x (λ e. committed k e x) f)
      (onward (judged_last d p journal k (trail_of x es)) (trail_of x es) (λ e. extended k e (trail_of x es)) h)
  onward-same k x es g f h rest = rw g.size (cases (decided d p k x.state x.memory journal) refl)
    where
      cases :
          (a : Answer Effect) → decided d p k x.state x.memory journal ≡ a →
          Same (onward a x (λ e. committed k e x) f) (onward a (trail_of x es) (λ e. extended k e (trail_of x es)) h)
      cases (stops n) t = here x es 0 n g
      cases (gives e) t =
          let s = rest (committed k e x) (earlier k (whole_of x) ∷ es) (good_new x es k e g t) in
          record { last = s.last; taken = ap (λ (n : ℕ). n + 1) s.taken; stop = s.stop; whose = s.whose; good = s.good }

  repeated_same :
      (k n : ℕ) (x : Machine) (es : List Earlier) → Good x es →
      Same (repeated (verdict_of d p k) (λ y e. committed k e y) n x) (repeated (judged_last d p journal k) (λ u e. extended k e u) n (trail_of x es))
  unfolding repeated
  repeated_same k zero x es g = here x es 0 0 g
  repeated_same k (suc n) x es g =
      onward-same k x es g (repeated (verdict_of d p k) (λ y e. committed k e y) n) (repeated (judged_last d p journal k) (λ u e. extended k e u) n) (repeated_same k n)

  admitted-same :
      (k : ℕ) (x : Machine) (es : List Earlier) → Good x es → (r : Outcome Machine) (u : Outcome Trail) → Same r u →
      Same (admitted k x r) (admitted k (trail_of x es) u)
  admitted-same k x es g r u s = cases (eqb k 0)
    where
      cases : (b : Bool) → Same (cond b r (outcome x 0 k)) (cond b u (outcome (trail_of x es) 0 k))
      cases true = s
      cases false = here x es 0 k g

  -- with the start alone: the first of 2, 3, 14
  alone_returning :
      (x : Machine) → length x.journal ≡ journal → (Behind p journal (trail_of x []) → ⊥) →
      returning p x.state (length x.memory) x.journal ≡ stops (cond (eqb (held_at p journal (whole_of x)) 0) 14 (held_at p journal (whole_of x)))
  unfolding returning
  alone_returning x size c =
      rw size (first_check (held_at p journal (whole_of x)) x.state.used _ (λ z h. c (record { alone = refl; passes = z; records = h })))

  alone_same : (x : Machine) → Good x [] → (Behind p journal (trail_of x []) → ⊥) → Same (backed p x) (dropped p journal (whole_of x) [])
  unfolding backed
  alone_same x g c = rw (alone_returning x g.size c) (here x [] 0 (cond (eqb (held_at p journal (whole_of x)) 0) 14 (held_at p journal (whole_of x))) g)

  -- a back step with an entry before the last
  dropped-same : (x : Machine) (e : Earlier) (es : List Earlier) → Good x (e ∷ es) → Same (backed p x) (dropped p journal (whole_of x) (e ∷ es))
  unfolding backed Walk
  dropped-same x e es g =
      let w = g.walk in
      let l = w.0 in
      rw (l.returns, l.whose)
      (record {
        last = sym l.leads;
        taken = refl;
        stop = refl;
        whose = refl;
        good = record {
          kept = subst Kept (sym l.leads) w.1;
          size = g.size;
          used = omega (arith, g.used);
          walk = subst (λ (z : Entry). Walk d p journal x.journal z es) (sym l.leads) w.2;
        };
      })

  back_same : (x : Machine) (es : List Earlier) → Good x es → (Behind p journal (trail_of x es) → ⊥) → Same (backed p x) (dropped p journal (whole_of x) es)
  back_same x [] g c = alone_same x g c
  back_same x (e ∷ es) g c = dropped-same x e es g

  pub call_same : (c : Call) (x : Machine) (es : List Earlier) → Good x es → Covered d p journal c (trail_of x es) → Same (called d p c x) (traced d p journal c (trail_of x es))
  unfolding called traced step_traced stepped ran
  call_same (step k) x es g v = onward-same k x es g (λ y. outcome y 0 0) (λ u. outcome u 0 0) (λ y fs h. here y fs 0 0 h)
  call_same (run k n) x es g v =
      rw (g.size, run_repeats d p journal k n (trail_of x es))
      (admitted-same (entry_in k (length d) p x.state (length x.memory) journal) x es g _ _ (repeated_same k n x es g))
  call_same back x es g v = back_same x es g v

  -- a list of calls from x and from a trail
  pub record From (cs : List Call) (x : Machine) (t : Trail) : Type 0 where
    pub answers : replies (called d p) cs x ≡ replies (traced d p journal) cs t
    pub last : whole_of (standing (called d p) cs x) ≡ (standing (traced d p journal) cs t).last
    pub good : Good (standing (called d p) cs x) (standing (traced d p journal) cs t).earlier

  pub follow : (cs : List Call) (x : Machine) (es : List Earlier) → Good x es → AllCovered d p journal cs (trail_of x es) → From cs x (trail_of x es)
  unfolding standing replies AllCovered
  follow [] x es g v = record { answers = refl; last = refl; good = g }
  follow (c ∷ cs) x es g v =
      let r = called d p c x in
      let u = traced d p journal c (trail_of x es) in
      let s = call_same c x es g v.0 in
      let same : u.after ≡ trail_of r.after u.after.earlier = ap (λ (z : Entry). trail z u.after.earlier) s.last in
      let rest = follow cs r.after u.after.earlier s.good (subst (AllCovered d p journal cs) same v.1) in
      let f : From cs r.after u.after = subst (From cs r.after) (sym same) rest in
      record { answers = rw (s.taken, s.stop, s.whose, f.answers); last = f.last; good = f.good }

-- steps are never left out
pub steps_covered : (d : List ℕ) (p : ProtectList) (journal : ℕ) (ks : List ℕ) (t : Trail) → AllCovered d p journal (steps ks) t
unfolding AllCovered steps
steps_covered d p journal [] t = tt
steps_covered d p journal (k ∷ ks) t = (tt, steps_covered d p journal ks (traced d p journal (step k) t).after)

module _ (d : List ℕ) (p : ProtectList) (cs : List Call) (x : Machine) (typed : Typed x.memory) (covered : AllCovered d p (length x.journal) cs (start_of x)) where
  pub from : From d p (length x.journal) x.state.used cs x (start_of x)
  unfolding Walk
  from =
      follow d p (length x.journal) x.state.used cs x []
      (record {
        kept = record { halfwords = typed.halfword };
        size = refl;
        used = sym (add-zero x.state.used);
        walk = tt;
      })
      covered

  -- the links of the trail, and its start
  walked : Walk d p (length x.journal) (machine_after d p cs x).journal (trail_after d p cs x).last (trail_after d p cs x).earlier
  walked = subst (λ (z : Entry). Walk d p (length x.journal) (machine_after d p cs x).journal z (trail_after d p cs x).earlier) from.last from.good.walk

  pub begun : first (trail_after d p cs x).last (trail_after d p cs x).earlier ≡ whole_of x
  unfolding first
  begun = begins d p (length x.journal) cs (start_of x)

  -- what stands after all steps but the last k
  pub stood_entry :
      (k : ℕ) → k ≤ steps_after d p cs x → (trail_after d p (forwards (drop k (standing_after d p cs x))) x).last ≡ at k (trail_after d p cs x).last (standing_after d p cs x)
  stood_entry k h =
      ap (λ (z : Entry). (standing (traced d p (length x.journal)) (forwards (drop k (standing_after d p cs x))) (trail z [])).last) (sym begun)
      ∙ prefix d p (length x.journal) (machine_after d p cs x).journal (trail_after d p cs x).last (standing_after d p cs x) walked k h

  same_entries : trail_after d p cs x ≡ trail_after d p (steps (seats_after d p cs x)) x
  same_entries =
      sym (entries d p (length x.journal) (machine_after d p cs x).journal (trail_after d p cs x).last (trail_after d p cs x).earlier walked)
      ∙ ap (λ (z : Entry). standing (traced d p (length x.journal)) (steps (seats_after d p cs x)) (trail z [])) begun

  same_taken : replies (traced d p (length x.journal)) (steps (seats_after d p cs x)) (start_of x) ≡ steps_taken (steps_after d p cs x)
  same_taken =
      ap (λ (z : Entry). replies (traced d p (length x.journal)) (steps (seats_after d p cs x)) (trail z [])) (sym begun)
      ∙ entries_taken d p (length x.journal) (machine_after d p cs x).journal (trail_after d p cs x).last (trail_after d p cs x).earlier walked

-- the single claim about a list of calls
pub as_trail : (d : List ℕ) (p : ProtectList) (x : Machine) (cs : List Call) → Typed x.memory → Included d p x cs → AsTrail d p x cs
as_trail d p x cs t v =
    let f = from d p cs x t v in
    let said = counted_said d p (length x.journal) cs (start_of x) in
    record {
      answers = f.answers;
      last = f.last;
      enough = rw f.answers (omega (arith, said));
      count = rw f.answers (omega (arith, said));
      again = same_entries d p cs x t v;
      taken = (from d p (steps (seats_after d p cs x)) x t (steps_covered d p (length x.journal) (seats_after d p cs x) (start_of x))).answers ∙ same_taken d p cs x t v;
      used = f.good.used;
    }

-- the start alone decides what is left out: where no step stands, the last entry is the start
module _ (d : List ℕ) (p : ProtectList) (x : Machine) (start : Behind p (length x.journal) (start_of x) → ⊥) where
  back_covered : (e : Entry) (es : List Earlier) → first e es ≡ whole_of x → Behind p (length x.journal) (trail e es) → ⊥
  unfolding first
  back_covered e [] h b =
      start (record { alone = refl; passes = subst (λ (z : Entry). held_at p (length x.journal) z ≡ 0) h b.passes; records = subst (λ (z : Entry). 0 < z.state.used) h b.records })
  back_covered e (y ∷ ys) h b = let z : ◌≡◌ {A = ℕ} 0 1 = let q = b.alone in cc in omega arith

  call_covered : (c : Call) (t : Trail) → first t.last t.earlier ≡ whole_of x → Covered d p (length x.journal) c t
  call_covered (step k) t h = tt
  call_covered (run k n) t h = tt
  call_covered back t h = back_covered t.last t.earlier h

  list_covered : (cs : List Call) (t : Trail) → first t.last t.earlier ≡ whole_of x → AllCovered d p (length x.journal) cs t
  unfolding AllCovered
  list_covered [] t h = tt
  list_covered (c ∷ cs) t h =
      (call_covered c t h, list_covered cs (traced d p (length x.journal) c t).after (call_begins d p (length x.journal) c t ∙ h))

  pub included : (cs : List Call) → Included d p x cs
  unfolding first
  included cs = list_covered cs (start_of x) refl
