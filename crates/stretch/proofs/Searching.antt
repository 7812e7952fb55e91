-- Trials that are taken back, and the search from the last order down.
use Prim.Native.Nat.{ℕ, ◌+◌, ◌-◌, ◌*◌, ◌≤◌, ◌<◌}
use mathlib.Core.Path.{◌≡◌, refl, sym, ap, subst, ◌∙◌}
use mathlib.Core.List.{List}
use mathlib.Core.Bool.{Bool, true, false, ◌&&◌}
use lib.Dec.{eqb}
use native.Mathlib.Omega.{arith}
use borrow.Author.Tests.{eqb-true, eqb-false, eq-eqb, ne_eqb}
use Rattle.hexfloat.specs.Answer.{gives, stops}
use Rattle.protection.specs.Form.{ProtectList}
use Rattle.machine.specs.declared.state.Registers.{Registers}
use Rattle.machine.specs.declared.state.State.{State}
use Rattle.machine.specs.Decide.{pointer_of}
use Rattle.machine.specs.Machine.{Machine, machine}
use Rattle.machine.specs.Run.{entry_of, ran}
use Rattle.machine.specs.Seats.{registers_of}
use Rattle.machine.specs.Step.{Outcome, outcome}
use Rattle.conditions.specs.Theorems.{Typed, KeptBelow}
use Rattle.conditions.proofs.Journals.{kept_all, kept_then}
use Rattle.conditions.proofs.Theorems.{theorems}
use Rattle.stretch.specs.Answer.{stretch_of, TakenBack, Answers, other_end, found}
use Rattle.stretch.specs.Jump.{HasJump}
use Rattle.stretch.specs.Restore.{restored}
use Rattle.stretch.specs.Search.{CameTo, stops_alike, Tried, Latest}
use Rattle.stretch.specs.Stretch.{SixToEleven, Shortest}
use Rattle.stretch.specs.Trial.{pointed, start_at, StopsFrom}
use Rattle.stretch.proofs.Alike.{alike_journal, alike_stops, stops_alike_lem}
use Rattle.stretch.proofs.Consecutive.{run_onward, run_few}
use Rattle.stretch.proofs.Restored.{run_restored}
use Rattle.stretch.proofs.Starts.{pointed_used, pointed-entry, whole_run}

-- nothing done, and one thing after another
pub left_all : (x : Machine) → TakenBack x x
left_all x = record { state = refl; memory = refl; journal = kept_all (x.state.used * 4) x.journal }

pub left_then : {x y z : Machine} → TakenBack x y → TakenBack y z → TakenBack x z
left_then {x} {y} {z} a b = record {
  state = b.state ∙ a.state;
  memory = b.memory ∙ a.memory;
  journal = kept_then a.journal (subst (λ (s : State). KeptBelow (s.used * 4) y.journal z.journal) a.state b.journal);
}

-- a run, and memory restored from its records
pub came_to :
    (d : List ℕ) (p : ProtectList) (k limit : ℕ) (s : State) (m j : List ℕ) {after : State} {m1 m2 j1 : List ℕ} {count stop : ℕ} → Typed m →
    outcome (machine after m1 j1) count stop ≡ ran d p k limit (machine s m j) → m2 ≡ restored j1 s.used count m1 →
    CameTo d p k limit (machine s m j) (machine s m2 j1) after count stop
came_to d p k limit s m j {after} {m1} {m2} {j1} {count} {stop} typed ran-as back_as =
    let r = ran d p k limit (machine s m j) in
    let at : machine after m1 j1 ≡ r.after = ap (λ (o : Outcome Machine). o.after) ran-as in
    let many : count ≡ r.taken = ap (λ (o : Outcome Machine). o.taken) ran-as in
    let journal : j1 ≡ r.after.journal = ap (λ (y : Machine). y.journal) at in
    record {
      state = ap (λ (y : Machine). y.state) at;
      taken = many;
      stop = ap (λ (o : Outcome Machine). o.stop) ran-as;
      left = record {
        state = refl;
        memory =
            back_as
            ∙ ap (λ (o : Outcome Machine). restored o.after.journal s.used o.taken o.after.memory) ran-as
            ∙ run_restored d p k limit (machine s m j) typed;
        journal = subst (λ (l : List ℕ). KeptBelow (s.used * 4) j l) (sym journal) (theorems.run_journal d p k limit (machine s m j));
      };
    }

-- a trial as the code makes it: a run from where the pointer was moved to, and two tests
module _ (d : List ℕ) (p : ProtectList) (k : ℕ) (s : State) (m j : List ℕ) (f last number : ℕ) {start after : State} {m2 j2 : List ℕ} {count stop : ℕ}
    (moved : start ≡ pointed k f s) (came : CameTo d p k (last - f + 1) (machine start m j) (machine start m2 j2) after count stop) where
  there : CameTo d p k (last - f + 1) (start_at k f (machine s m j)) (machine (pointed k f s) m2 j2) after count stop
  there = rw moved at came

  left : TakenBack (machine s m j) (machine s m2 j2)
  left = record {
    state = refl;
    memory = there.left.memory;
    journal = subst (λ (used : ℕ). KeptBelow (used * 4) j j2) (pointed_used k f s) there.left.journal;
  }

  both_tests : (eqb count (last - f) && eqb stop number) ≡ stops_alike d p k (machine s m j) last number f
  unfolding stops_alike
  both_tests = rw (there.taken, there.stop)

  pub tried_elsewhere : (count ≡ last - f → ⊥) → Tried d p k (machine s m j) (machine s m2 j2) last number f false
  tried_elsewhere other = record { says = rw (ne_eqb count (last - f) other) at both_tests; left = left }

  pub tried_there : count ≡ last - f → {n : ℕ} → n ≡ stop → Tried d p k (machine s m j) (machine s m2 j2) last number f (eqb n number)
  tried_there same {n} e = record { says = ap (λ (i : ℕ). eqb i number) e ∙ rw (eq-eqb count (last - f) same) at both_tests; left = left }

-- what a trial says does not change where others were made before it and taken back
alike_left :
    (d : List ℕ) (p : ProtectList) (k : ℕ) (s : State) (m j n l : List ℕ) (last stop f : ℕ) → Typed m → TakenBack (machine s m j) (machine s n l) →
    stops_alike d p k (machine s n l) last stop f ≡ stops_alike d p k (machine s m j) last stop f
alike_left d p k s m j n l last stop f typed before =
    ap (λ (i : List ℕ). stops_alike d p k (machine s i l) last stop f) before.memory ∙ alike_journal d p k s m j l last stop f typed before.journal.words

-- nor does what the search says
latest_start :
    (d : List ℕ) (p : ProtectList) (k : ℕ) (s : State) (m j n l : List ℕ) → Typed m → (pointer last stop first : ℕ) → TakenBack (machine s m j) (machine s n l) →
    (y : Machine) → Latest d p k (machine s n l) y pointer last stop first → Latest d p k (machine s m j) y pointer last stop first
latest_start d p k s m j n l typed pointer last stop first before y h =
    let same : (f : ℕ) → stops_alike d p k (machine s m j) last stop f ≡ stops_alike d p k (machine s n l) last stop f =
    λ f. sym (alike_left d p k s m j n l last stop f typed before) in
    record {
      within = h.within;
      least = h.least;
      alike = λ above. same first ∙ h.alike above;
      none = λ f above below. same f ∙ h.none f above below;
      left = left_then before h.left;
    }

-- the search, where every order above `first` was tried
pub record Sought (d : List ℕ) (p : ProtectList) (k : ℕ) (x y : Machine) (last stop first : ℕ) : Type 0 where
  pub within : first ≤ last
  pub none : (f : ℕ) → first < f → f ≤ last → stops_alike d p k x last stop f ≡ false
  pub left : TakenBack x y

module _ (d : List ℕ) (p : ProtectList) (k : ℕ) (s : State) (m j n l : List ℕ) (typed : Typed m) (last stop first : ℕ)
    (sought : Sought d p k (machine s m j) (machine s n l) last stop first) where
  -- a trial says of the start what it says of the machine that it is made on
  tried_start : (z : Machine) (alike : Bool) → Tried d p k (machine s n l) z last stop first alike → alike ≡ stops_alike d p k (machine s m j) last stop first
  tried_start z alike tried = tried.says ∙ alike_left d p k s m j n l last stop first typed sought.left

  pub sought_on :
      {z : Machine} {alike : Bool} → 0 < first → alike ≡ false → Tried d p k (machine s n l) z last stop first alike → Sought d p k (machine s m j) z last stop (first - 1)
  sought_on {z} {alike} some fails tried = record {
    within = omega (arith, sought.within);
    none = λ f above below. cases f (eqb f first) refl (sym (tried_start z alike tried) ∙ fails) above below;
    left = left_then sought.left tried.left;
  }
    where
      cases :
          (f : ℕ) (b : Bool) → eqb f first ≡ b → stops_alike d p k (machine s m j) last stop first ≡ false → first - 1 < f → f ≤ last →
          stops_alike d p k (machine s m j) last stop f ≡ false
      cases f true e here above below = rw (eqb-true f first e) here
      cases f false e here above below = let other = eqb-false f first e in sought.none f (omega arith) below

  sought_here :
      {z : Machine} {alike : Bool} {pointer : ℕ} → pointer < first → alike ≡ true → Tried d p k (machine s n l) z last stop first alike →
      Latest d p k (machine s m j) z pointer last stop first
  sought_here {z} {alike} above holds tried = record {
    within = sought.within;
    least = omega arith;
    alike = λ h. sym (tried_start z alike tried) ∙ holds;
    none = sought.none;
    left = left_then sought.left tried.left;
  }

  pub sought_at :
      {z : Machine} {alike : Bool} {pointer f : ℕ} → f ≡ first → pointer < first → alike ≡ true → Tried d p k (machine s n l) z last stop f alike →
      Latest d p k (machine s m j) z pointer last stop f
  sought_at {z} {alike} {pointer} e above holds tried =
      subst (λ (i : ℕ). Latest d p k (machine s m j) z pointer last stop i) (sym e)
      (sought_here above holds (subst (λ (i : ℕ). Tried d p k (machine s n l) z last stop i alike) e tried))

-- what is found is the shortest stretch
module _ (d : List ℕ) (p : ProtectList) (k : ℕ) (x y : Machine) (entered : entry_of d p k x ≡ 0) (none : HasJump d → ⊥) (last stop first : ℕ)
    (number : SixToEleven stop) (whole : StopsFrom d p k x last stop (pointer_of k x.state))
    (l : Latest d p k x y (pointer_of k x.state) last stop first) where
  some : stop ≡ 0 → ⊥
  some z = omega (arith, number.least)

  few : last ≤ pointer_of k x.state + 4096
  few =
      let start = start_at k (pointer_of k x.state) x in
      omega (arith, whole.takes, run_few d p k none 4294967295 start (pointed-entry d p k (pointer_of k x.state) x ∙ entered))

  stretch : StopsFrom d p k x last stop first
  stretch = cases (eqb first (pointer_of k x.state)) refl
    where
      cases : (b : Bool) → eqb first (pointer_of k x.state) ≡ b → StopsFrom d p k x last stop first
      cases true e = rw (eqb-true first (pointer_of k x.state) e) whole
      cases false e =
          let other = eqb-false first (pointer_of k x.state) e in
          alike_stops d p k x entered none last stop some few first l.least l.within (l.alike (omega (arith, l.least)))

  later : (f : ℕ) → first < f → StopsFrom d p k x last stop f → ⊥
  later f above h =
      let ends : f ≤ last = omega (arith, h.takes) in
      let differ : true ≡ false = sym (stops_alike_lem d p k x entered none last stop some few f h.begins ends h) ∙ l.none f above ends in
      let z : ◌≡◌ {A = ℕ} 0 1 = cc in
      omega arith

  pub shortest_found : Shortest d p k x (stretch_of first last stop)
  shortest_found = record { number = number; whole = whole; stretch = stretch; latest = later }

-- the whole run, and the search after it
module _ (d : List ℕ) (p : ProtectList) (k : ℕ) (s : State) (m j : List ℕ) {after : State} {m2 j2 : List ℕ} {count stop : ℕ}
    (came : CameTo d p k 4294967295 (machine s m j) (machine s m2 j2) after count stop) where
  abbrev x : Machine
  x = machine s m j

  -- a run that ends by anything but 6 to 11
  pub whole_other : entry_of d p k x ≡ 0 → {n : ℕ} → n ≡ stop → (SixToEleven n → ⊥) → Answers d p k x (stops 21)
  whole_other entered same other =
      other_end entered (λ h. other (subst SixToEleven (sym (same ∙ came.stop ∙ ap (λ (r : Outcome Machine). r.stop) (sym (whole_run d p k x)))) h))

  module _ (none : HasJump d → ⊥) where
    moved_on : pointer_of k after ≡ pointer_of k s + count
    moved_on = rw (came.state, came.taken) (run_onward d p k none 4294967295 x).pointer

    pub whole_on : {own stopped : Registers} → own ≡ registers_of k s → stopped ≡ registers_of k after → own.status.pointer ≤ stopped.status.pointer
    whole_on here there = rw (here, there, moved_on) (omega arith)

    whole_stops : StopsFrom d p k x (pointer_of k after) stop (pointer_of k s)
    whole_stops =
        let run = whole_run d p k x in
        record {
          begins = omega arith;
          takes = omega (arith, moved_on, came.taken, ap (λ (r : Outcome Machine). r.taken) run);
          there = ap (λ (r : Outcome Machine). pointer_of k r.after.state) run ∙ ap (λ (z : State). pointer_of k z) (sym came.state);
          stops = ap (λ (r : Outcome Machine). r.stop) run ∙ sym came.stop;
        }

    pub whole_found :
        Typed m → {own stopped : Registers} {n first : ℕ} {y : Machine} → own ≡ registers_of k s → stopped ≡ registers_of k after → n ≡ stop → entry_of d p k x ≡ 0 →
        SixToEleven n → Latest d p k (machine s m2 j2) y own.status.pointer stopped.status.pointer n first →
        Answers d p k x (gives (stretch_of first stopped.status.pointer stop)) × TakenBack x y
    whole_found typed {own} {stopped} {n} {first} {y} here there same entered number l =
        let all = latest_start d p k s m j m2 j2 typed (pointer_of k s) (pointer_of k after) stop first came.left y (rw (here, there, same) at l) in (
          rw there (found entered none (shortest_found d p k x y entered none (pointer_of k after) stop first (subst SixToEleven same number) whole_stops all)),
          all.left,
        )
