-- A trial with a limit says whether the run from its first order stops alike, on whatever words the journal holds.
use Prim.Native.Nat.{ℕ, ◌+◌, ◌-◌, ◌≤◌}
use mathlib.Core.Path.{◌≡◌, refl, ap, ◌∙◌}
use mathlib.Core.List.{List}
use mathlib.Core.Bool.{Bool, true, false, ◌&&◌}
use lib.Dec.{eqb}
use lib.ListN.{length}
use native.Mathlib.Omega.{arith}
use borrow.Author.Tests.{eqb-true, eqb-false, eq-eqb}
use Rattle.hexfloat.proofs.Answers.{both}
use Rattle.protection.specs.Form.{ProtectList}
use Rattle.machine.specs.declared.state.State.{State}
use Rattle.machine.specs.Decide.{pointer_of}
use Rattle.machine.specs.Machine.{Machine, machine}
use Rattle.machine.specs.Run.{entry_of, ran}
use Rattle.machine.specs.Step.{Outcome}
use Rattle.conditions.specs.Theorems.{Typed}
use Rattle.conditions.specs.Trail.{Reply}
use Rattle.stretch.specs.Jump.{HasJump}
use Rattle.stretch.specs.Search.{stops_alike}
use Rattle.stretch.specs.Trial.{pointed, start_at, trial_from, StopsFrom}
use Rattle.stretch.proofs.Consecutive.{run_onward}
use Rattle.stretch.proofs.Limits.{run_same, run_more}
use Rattle.stretch.proofs.Journal.{run_alike}
use Rattle.stretch.proofs.Starts.{pointed_pointer, pointed-entry}

-- the journal's words do not matter
pub alike_journal :
    (d : List ℕ) (p : ProtectList) (k : ℕ) (s : State) (m j l : List ℕ) (last stop f : ℕ) → Typed m → length l ≡ length j →
    stops_alike d p k (machine s m l) last stop f ≡ stops_alike d p k (machine s m j) last stop f
unfolding stops_alike
alike_journal d p k s m j l last stop f typed same =
    ap (λ (r : Reply). eqb r.taken (last - f) && eqb r.stop stop) (run_alike d p k (last - f + 1) (pointed k f s) m j l typed same)

module _ (d : List ℕ) (p : ProtectList) (k : ℕ) (x : Machine) (entered : entry_of d p k x ≡ 0) (none : HasJump d → ⊥) (last stop : ℕ) (some : stop ≡ 0 → ⊥) (few : last ≤ pointer_of k x.state + 4096)
    (f : ℕ) (begins : pointer_of k x.state ≤ f) (ends : f ≤ last) where
  -- the trial, and the run from its start
  abbrev tried : Outcome Machine
  tried = ran d p k (last - f + 1) (start_at k f x)

  enters : entry_of d p k (start_at k f x) ≡ 0
  enters = pointed-entry d p k f x ∙ entered

  same_run : (tried.stop ≡ 0 → ⊥) → trial_from d p k x f ≡ tried
  same_run z = run_same d p k (last - f + 1) 4294967295 (omega arith) (start_at k f x) enters z

  pub alike_stops : stops_alike d p k x last stop f ≡ true → StopsFrom d p k x last stop f
  unfolding stops_alike
  alike_stops h =
      let q = both (eqb tried.taken (last - f)) (eqb tried.stop stop) h in
      let taken : tried.taken ≡ last - f = eqb-true tried.taken (last - f) q.0 in
      let stopped : tried.stop ≡ stop = eqb-true tried.stop stop q.1 in
      let same = same_run (λ z. some (omega arith)) in
      let takes : (trial_from d p k x f).taken ≡ last - f = ap (λ (r : Outcome Machine). r.taken) same ∙ taken in
      let on = (run_onward d p k none 4294967295 (start_at k f x)).pointer in
      record {
        begins = begins;
        takes = omega arith;
        there = omega (arith, pointed_pointer k f x.state);
        stops = ap (λ (r : Outcome Machine). r.stop) same ∙ stopped;
      }

  pub stops_alike_lem : StopsFrom d p k x last stop f → stops_alike d p k x last stop f ≡ true
  unfolding stops_alike
  stops_alike_lem h = cases (eqb tried.stop 0) refl
    where
      cases : (b : Bool) → eqb tried.stop 0 ≡ b → (eqb tried.taken (last - f) && eqb tried.stop stop) ≡ true
      cases true e =
          let more = run_more d p k (last - f + 1) 4294967295 (omega arith) (start_at k f x) enters (eqb-true tried.stop 0 e) in
          absurd (omega (arith, h.takes))
      cases false e =
          let same = same_run (eqb-false tried.stop 0 e) in
          let taken : tried.taken ≡ last - f = omega (arith, h.takes, ap (λ (r : Outcome Machine). r.taken) same) in
          let stopped : tried.stop ≡ stop = omega (arith, h.stops, ap (λ (r : Outcome Machine). r.stop) same) in
          rw (eq-eqb tried.taken (last - f) taken, eq-eqb tried.stop stop stopped)
