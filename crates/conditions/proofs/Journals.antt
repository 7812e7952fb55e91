-- What calls leave of the journal: a run writes nothing below four times the used count, and a back step nothing at all.
use Prim.Native.Nat.{ℕ, zero, suc, ◌*◌}
use mathlib.Core.Path.{◌≡◌, refl, ◌∙◌}
use mathlib.Core.List.{List}
use mathlib.Core.Bool.{Bool, true, false, cond}
use lib.Dec.{eqb}
use lib.ListN.{length}
use native.Mathlib.Omega.{arith}
use Rattle.hexfloat.specs.Answer.{Answer, gives, stops}
use Rattle.protection.specs.Form.{ProtectList}
use Rattle.machine.specs.declared.verdict.Effect.{Effect}
use Rattle.machine.specs.Back.{returning, last_seat, backed_by, backed}
use Rattle.machine.specs.Journal.{encoded}
use Rattle.machine.specs.Machine.{Machine, before_of, committed}
use Rattle.machine.specs.Run.{repeated, steps_of, entry_of, ran}
use Rattle.machine.specs.Seats.{registers_of}
use Rattle.machine.specs.Step.{Outcome, outcome, onward, verdict_of}
use Rattle.conditions.specs.Theorems.{KeptBelow}
use Rattle.conditions.proofs.Records.{written-length, written_other}

pub kept_all : (n : ℕ) (j : List ℕ) → KeptBelow n j j
kept_all n j = record { words = refl; below = λ i h. refl }

pub kept_then : {n : ℕ} {i j l : List ℕ} → KeptBelow n i j → KeptBelow n j l → KeptBelow n i l
kept_then a b = record { words = b.words ∙ a.words; below = λ i h. b.below i h ∙ a.below i h }

module _ (d : List ℕ) (p : ProtectList) (k : ℕ) where
  -- a run leaves the words below those of its first record
  abbrev Leaves : Machine → Outcome Machine → Type 0
  Leaves x r = KeptBelow (x.state.used * 4) x.journal r.after.journal

  pub steps_leave : (n : ℕ) (x : Machine) → Leaves x (steps_of d p k n x)
  unfolding repeated
  steps_leave zero x = kept_all (x.state.used * 4) x.journal
  steps_leave (suc n) x = cases (verdict_of d p k x) (steps_leave n)
    where
      cases : (v : Answer Effect) → ((y : Machine) → Leaves y (steps_of d p k n y)) → Leaves x (onward v x (λ e. committed k e x) (steps_of d p k n))
      cases (stops n) more = kept_all (x.state.used * 4) x.journal
      cases (gives e) more =
          let words = encoded k (before_of (registers_of k x.state) x.memory e) in
          let then = more (committed k e x) in
          record {
            words = then.words ∙ written-length x.journal x.state.used words;
            below = λ i h. then.below i (omega arith) ∙ written_other x.journal x.state.used words i (λ z. omega arith);
          }

  -- what holds of a run's steps, and where a check refuses it, holds of the run
  pub run_either : (P : Outcome Machine → Type 0) (limit : ℕ) (x : Machine) → P (steps_of d p k limit x) → P (outcome x 0 (entry_of d p k x)) → P (ran d p k limit x)
  unfolding ran
  run_either P limit x taken refused = cases (eqb (entry_of d p k x) 0)
    where
      cases : (b : Bool) → P (cond b (steps_of d p k limit x) (outcome x 0 (entry_of d p k x)))
      cases true = taken
      cases false = refused

  pub run_leaves : (limit : ℕ) (x : Machine) → Leaves x (ran d p k limit x)
  run_leaves limit x = run_either (Leaves x) limit x (steps_leave limit x) (kept_all (x.state.used * 4) x.journal)

pub back_leaves_journal : (p : ProtectList) (x : Machine) → (backed p x).after.journal ≡ x.journal
unfolding backed
back_leaves_journal p x = cases (returning p x.state (length x.memory) x.journal) (last_seat x.state x.journal)
  where
    cases : (v : Answer Effect) (seat : ℕ) → (backed_by v seat x).after.journal ≡ x.journal
    cases (stops n) seat = refl
    cases (gives e) seat = refl
