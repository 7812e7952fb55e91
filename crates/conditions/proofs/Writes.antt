-- The journal: a taken step writes one record, at its used count, and no other word; a back step after it puts everything back.
use Prim.Native.Nat.{ℕ}
use mathlib.Core.Path.{◌≡◌, refl}
use mathlib.Core.List.{List}
use lib.ListN.{length}
use native.Mathlib.Omega.{arith}
use Rattle.hexfloat.specs.Answer.{gives}
use Rattle.protection.specs.Form.{ProtectList}
use Rattle.machine.specs.declared.verdict.Effect.{Effect}
use Rattle.machine.specs.Journal.{encoded}
use Rattle.machine.specs.Machine.{Machine, before_of}
use Rattle.machine.specs.Seats.{registers_of}
use Rattle.machine.specs.Step.{verdict_of}
use Rattle.conditions.specs.Theorems.{Typed, whole_of, OneRecord}
use Rattle.conditions.proofs.Links.{Kept, back_new, saved_new}
use Rattle.conditions.proofs.Records.{written-length, written_other}

pub one_record : (d : List ℕ) (p : ProtectList) (k : ℕ) (x : Machine) (e : Effect) → Typed x.memory → verdict_of d p k x ≡ gives e → OneRecord p k x e
one_record d p k x e typed t =
    let kept : Kept (whole_of x) = record { halfwords = typed.halfword } in
    let words = encoded k (before_of (registers_of k x.state) x.memory e) in
    record {
      used = refl;
      words = written-length x.journal x.state.used words;
      saved = saved_new d p (length x.journal) x refl kept k e t;
      below = λ i h. written_other x.journal x.state.used words i (λ z. omega arith);
      above = λ i h. written_other x.journal x.state.used words i (λ z. omega arith);
      back = back_new d p (length x.journal) x refl kept k e t;
    }
