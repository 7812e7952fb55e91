use mathlib.Core.Path.{sym, ap, ◌∙◌}
use Prim.Native.Nat.{◌*◌, ◌≤◌}
use native.Mathlib.Nat.{le_trans, le_of_eq}
use lib.ListN.{length}
use lib.Seq.{length-take-le}
use Rattle.decktext.specs.Read.{Outcome}
use Rattle.decktext.proofs.Laws.{taken_fits}
use Rattle.listing.specs.Listing.{blank, listed_run}
use Rattle.listing.proofs.Answers.{of_refused, of_taken}
use Rattle.listing.proofs.listing.answer.Goals as goal
use Rattle.listing.proofs.listing.answer.Goals.{After-fresh-fresh}

-- the cells of the orders read
fits : (c : After-fresh-fresh) → c.in-Ok.count * 4 ≤ length c.read.new.cells
fits c = le_trans (taken_fits c.args.text.now blank c.in-Ok.count (ap (λ (o : Outcome). o.said) (sym c.in-Ok.ensures))) (le_of_eq (sym c.read.auto.cells))

pub slice_bounds-cells-end : goal.slice_bounds-cells-end
slice_bounds-cells-end c = fits c

pub slice_bounds-run-end : goal.slice_bounds-run-end
slice_bounds-run-end c = sym (length-take-le _ _ (fits (goal.at.slice_bounds-run-end c).After-fresh-fresh))

pub returns-in-Ok : goal.returns-in-Ok
returns-in-Ok c = rw (ap listed_run (rw c.fresh-fresh.ensures at c.run.ensures) ∙ of_taken _ _ _ c.in-Ok.ensures) at c.list_run.ensures

pub returns-in-Err : goal.returns-in-Err
returns-in-Err c = rw (c.from.ensures, c.line.ensures, of_refused _ _ c.in-Err.refusal c.in-Err.ensures) at c.list_refusal.ensures
