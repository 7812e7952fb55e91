-- Which orders belong to the chart, by the row of their code.
use Prim.Native.Nat.{ℕ, ◌<◌, ◌≤◌}
use mathlib.Core.Path.{◌≡◌, refl, sym, ap, subst, ◌∙◌}
use mathlib.Core.List.{[], ◌∷◌}
use mathlib.Core.Logic.{◌⊎◌, inl, inr, ⊎_elim}
use mathlib.Core.Bool.{Bool, true, false, cond, ◌&&◌, ◌||◌}
use lib.Dec.{eqb, leb, ltb}
use native.Mathlib.Omega.{arith}
use borrow.Author.Tests.{leb-true, leb-false, ltb-true, eqb-true, lt-ltb, le-leb}
use Rattle.hexfloat.specs.Answer.{Answer, gives, stops}
use Rattle.hexfloat.proofs.Answers.{gives_inj, both}
use Rattle.orders.specs.declared.order.Operation.{Operation}
use Rattle.orders.specs.declared.order.Order.{Order}
use Rattle.orders.specs.Order.{rows, operation_of, within_limits, legal_of}
use Rattle.orders.proofs.Passing.{legal-row, within_limited}
use Rattle.orders.proofs.Table.{all_rows, row_passes}
use Rattle.chart.specs.Block.{ats_of}
use Rattle.chart.specs.Chart.{passing, at_below, belongs, if_belongs}
use Rattle.chart.specs.Theorems.{Belongs}

-- what holds of each row of the table
pub record Row (c : ℕ) (op : Operation) : Type 0 where
  pub code : c < 36
  pub r1 : op.r1 ≤ 7
  pub r2 : op.r2 ≤ 7
  pub at : (op.at ≡ 0) ⊎ (op.at ≡ 65535)

unfoldable row_test : ℕ → Operation → Bool
row_test c op = ltb c 36 && (leb op.r1 7 && (leb op.r2 7 && (eqb op.at 0 || eqb op.at 65535)))

rows_tested : all_rows row_test rows 1 ≡ true
unfolding all_rows row_test
rows_tested = refl

either : (a b : Bool) → (a || b) ≡ true → (a ≡ true) ⊎ (b ≡ true)
either true b h = inl refl
either false b h = inr h

pub row_known : (c : ℕ) (op : Operation) → operation_of c ≡ gives op → Row c op
unfolding row_test
row_known c op h =
    let at = eqb op.at 0 || eqb op.at 65535 in
    let a = both (ltb c 36) (leb op.r1 7 && (leb op.r2 7 && at)) (row_passes row_test rows_tested c op h) in
    let b = both (leb op.r1 7) (leb op.r2 7 && at) a.1 in
    let d = both (leb op.r2 7) at b.1 in
    record {
      code = ltb-true c 36 a.0;
      r1 = leb-true op.r1 7 b.0;
      r2 = leb-true op.r2 7 d.0;
      at = ⊎_elim (λ e. inl (eqb-true op.at 0 e)) (λ e. inr (eqb-true op.at 65535 e)) (either (eqb op.at 0) (eqb op.at 65535) d.1);
    }

-- an order whose cells are those of a row, where the bound is n
pub record Within (n : ℕ) (op : Operation) (o : Order) : Type 0 where
  pub r1 : o.r1 ≤ op.r1
  pub r2 : o.r2 ≤ op.r2
  pub at : o.at < ats_of n op.at

module _ (n : ℕ) (o : Order) (op : Operation) (row : operation_of o.code ≡ gives op) where
  pub belongs_within : Belongs n o → Within n op o
  belongs_within h =
      let same : h.operation ≡ op = gives_inj (sym (legal-row o h.operation h.legal).0 ∙ row) in
      let k = within_limited op o (legal-row o op (h.legal ∙ ap gives same)).1 in
      let l : (op.at ≡ 0 → ⊥) → o.at < n = subst (λ (x : Operation). (x.at ≡ 0 → ⊥) → o.at < n) same h.below in
      record {
        r1 = k.r1;
        r2 = k.r2;
        at = ⊎_elim (λ e. rw e (omega (arith, k.at))) (λ e. let m = l (λ z. omega arith) in rw e m) (row_known o.code op row).at;
      }

  pub within_belongs : n ≤ 65536 → Within n op o → Belongs n o
  unfolding legal_of within_limits
  within_belongs small w =
      let t : o.at ≤ op.at =
      ⊎_elim (λ e. let k : o.at < 1 = rw e at w.at in omega arith) (λ e. let k : o.at < n = rw e at w.at in omega arith) (row_known o.code op row).at in
      record {
        operation = op;
        legal = rw (row, le-leb o.r1 op.r1 w.r1, le-leb o.r2 op.r2 w.r2, le-leb o.at op.at t);
        below = λ used. ⊎_elim (λ e. absurd (used e)) (λ e. rw e at w.at) (row_known o.code op row).at;
      }

-- the test is that of the definition
module _ (n : ℕ) (o : Order) where
  pub true_belongs : belongs n o ≡ true → Belongs n o
  unfolding belongs
  true_belongs h = cases (legal_of o) refl h
    where
      cases : (r : Answer Operation) → legal_of o ≡ r → passing r (at_below n o) ≡ true → Belongs n o
      cases (gives op) e t = record { operation = op; legal = e; below = λ used. below op used (either (leb op.at 0) (ltb o.at n) t) }
        where
          below : (op : Operation) → (op.at ≡ 0 → ⊥) → (leb op.at 0 ≡ true) ⊎ (ltb o.at n ≡ true) → o.at < n
          below op used (inl z) = absurd (used (omega (arith, leb-true op.at 0 z)))
          below op used (inr l) = ltb-true o.at n l
      cases (stops k) e t = absurd (let y : ◌≡◌ {A = ℕ} 0 1 = cc in omega arith)

  pub belongs_true : Belongs n o → belongs n o ≡ true
  unfolding belongs
  belongs_true h = rw h.legal (cases (leb h.operation.at 0) refl)
    where
      cases : (b : Bool) → leb h.operation.at 0 ≡ b → (b || ltb o.at n) ≡ true
      cases true e = refl
      cases false e = lt-ltb o.at n (h.below (λ z. let l = leb-false h.operation.at 0 e in omega arith))

  -- it is there once and belongs, or is not there
  pub belongs_cases : ((if_belongs n o ≡ o ∷ []) × Belongs n o) ⊎ (if_belongs n o ≡ [])
  unfolding if_belongs
  belongs_cases = cases (belongs n o) refl
    where
      cases : (b : Bool) → belongs n o ≡ b → ((cond b (o ∷ []) [] ≡ o ∷ []) × Belongs n o) ⊎ (cond b (o ∷ []) [] ≡ [])
      cases true e = inl (refl, true_belongs e)
      cases false e = inr refl

  pub belongs_once : Belongs n o → if_belongs n o ≡ o ∷ []
  unfolding if_belongs
  belongs_once h = rw (belongs_true h)

  pub belongs_not : (Belongs n o → ⊥) → if_belongs n o ≡ []
  belongs_not out = ⊎_elim (λ q. absurd (out q.1)) (λ e. e) belongs_cases
