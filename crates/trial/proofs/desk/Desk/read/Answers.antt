-- A deck that is taken has its cells.
use Rattle.std.proofs.Common.{rules, ◌≡◌, ◌≤◌, ◌*◌, length, ap, sym, ◌∙◌}
use Rattle.decktext.specs.Read.{Outcome, says_reading}
use Rattle.decktext.proofs.Laws.{taken_fits}
use Rattle.trial.proofs.desk.Desk.read.Goals as goal

pub returns-clause-fits : goal.returns-clause-fits
returns-clause-fits g c =
    let fits : c.in_ok-orders.orders * 4 ≤ length c.args.self.now.cells = taken_fits _ _ _ (ap (λ (o : Outcome). o.said) (sym c.read.ensures) ∙ ap says_reading c.in_ok-orders.was) in
    let long : length c.args.self.now.cells ≡ g.row.CELLS = search rules in
    rw (← long) fits
