-- A call by its two bytes: one law for each of the three kinds.
use Prim.Native.Nat.{ℕ, ◌+◌, ◌*◌, ◌<◌, ◌≤◌}
use mathlib.Core.Path.{◌≡◌, ap, sym, ◌∙◌}
use mathlib.Core.List.{List, ◌++◌}
use lib.ListN.{get_or, get_or-append, length}
use mathlib.Core.Bool.{cond}
use native.Mathlib.Numerals.{add-one}
use lib.Dec.{eqb}
use borrow.Author.Tests.{eq-eqb, ne_eqb}
use Rattle.std.proofs.Common.{add-zero, arith, lit<}
use Rattle.std.proofs.lemmas.List.{append_assoc, get_or-append-add, length-append}
use Rattle.protection.specs.Form.{ProtectList}
use Rattle.machine.specs.Back.{backed}
use Rattle.machine.specs.Machine.{Machine}
use Rattle.machine.specs.Run.{ran}
use Rattle.machine.specs.Step.{Outcome, outcome, single, stepped}
use Rattle.trial.specs.Call.{value_of, called, call_of, after_calls}

module _ (a b : ℕ) (d : List ℕ) (p : ProtectList) (x : Machine) where
  pub called_step :
      {y : Machine} {n k seat : ℕ} → b ≡ 115 → seat ≡ value_of a → n ≡ cond (eqb k 0) 1 0 → single y k ≡ stepped d p seat x → outcome y n k ≡ called a b d p x
  unfolding called
  called_step h s count e = rw (eq-eqb b 115 h, ← s, count) e

  pub called_back : {r : Outcome Machine} → (b ≡ 115 → ⊥) → b ≡ 98 → r ≡ backed p x → r ≡ called a b d p x
  unfolding called
  called_back other h e = rw (ne_eqb b 115 other, eq-eqb b 98 h) e

  pub called_run :
      {r : Outcome Machine} {seat limit : ℕ} → (b ≡ 115 → ⊥) → (b ≡ 98 → ⊥) → seat ≡ value_of a → limit ≡ value_of b → r ≡ ran d p seat limit x → r ≡ called a b d p x
  unfolding called
  called_run other another s l e = rw (ne_eqb b 115 other, ne_eqb b 98 another, ← s, ← l) e

-- one call more
pub one_more :
    (cs d : List ℕ) (p : ProtectList) (i : ℕ) (x y : Machine) (r : Outcome Machine) →
    y ≡ after_calls cs d p i x → r ≡ call_of cs i d p y → r.after ≡ after_calls cs d p (i + 1) x
unfolding after_calls
one_more cs d p i x y r before e =
    rw add-one (ap (λ (o : Outcome Machine). o.after) e ∙ ap (λ (z : Machine). (call_of cs i d p z).after) before)

-- the same, where its two bytes follow those of the calls before it
module _ (cs before pair rest : List ℕ) (i : ℕ) (whole : cs ≡ before ++ (pair ++ rest)) (place : length before ≡ 2 * i) (two : length pair ≡ 2) where
  byte_at : (n : ℕ) → n < length pair → get_or cs (2 * i + n) 0 ≡ get_or pair n 0
  byte_at n h = rw (whole, ← place) (get_or-append-add before (pair ++ rest) n 0 ∙ get_or-append pair rest 0 n h)

  pub one_pair :
      (d : List ℕ) (p : ProtectList) (x y : Machine) (r : Outcome Machine) →
      y ≡ after_calls cs d p i x → r ≡ called (get_or pair 0 0) (get_or pair 1 0) d p y → r.after ≡ after_calls cs d p (i + 1) x
  one_pair d p x y r reached e =
      let first : get_or cs (2 * i) 0 ≡ get_or pair 0 0 = ap (λ (n : ℕ). get_or cs n 0) (sym (add-zero (2 * i))) ∙ byte_at 0 (rw two (lit< tt)) in
      let second : get_or cs (2 * i + 1) 0 ≡ get_or pair 1 0 = byte_at 1 (rw two (lit< tt)) in
      one_more cs d p i x y r reached (rw (first, second) e)

  pub still_whole : cs ≡ (before ++ pair) ++ rest
  still_whole = rw append_assoc whole

  pub further : length (before ++ pair) ≡ 2 * (i + 1)
  further = rw (length-append, place, two) (omega arith)

  pub in_list : 2 * (i + 1) ≤ length cs
  in_list = rw (whole, length-append, length-append, place, two) (omega arith)
