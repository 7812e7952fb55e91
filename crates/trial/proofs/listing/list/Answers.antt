-- One call more.
use Rattle.std.proofs.Common.{rules, refl, ap, ◌∙◌, [], ◌++◌}
use Rattle.trial.specs.Call.{after_calls}
use Rattle.trial.proofs.Calls.{one_pair, still_whole, further, in_list}
use Rattle.trial.proofs.listing.list.Goals as goal

pub loop-pair-init : goal.loop-pair-init
unfolding after_calls
loop-pair-init c = (search rules, ([], search rules, refl), refl)

pub loop-pair-preserved : goal.loop-pair-preserved
loop-pair-preserved c =
    let (two, (before, all, place), reached) = c.loop-pair.invariant in
    let (same, (chunk, size), _) = c.in-Some.ensures.steps in
    let whole = all ∙ ap (λ rest. before ++ rest) chunk in
    let long = size ∙ two in (
      same ∙ two,
      (_, still_whole _ before _ _ _ whole place long, further _ before _ _ _ whole place long),
      one_pair _ before _ _ _ whole place long _ _ _ _ _ reached c.call-r.ensures,
    )

pub returns-then-is_err-clause-stands : goal.returns-then-is_err-clause-stands
returns-then-is_err-clause-stands c =
    let (two, (before, all, place), reached) = c.loop-pair.invariant in
    let (_, (chunk, size), _) = c.in-Some.ensures.steps in
    let whole = all ∙ ap (λ rest. before ++ rest) chunk in
    let long = size ∙ two in
    (in_list _ before _ _ _ whole place long, one_pair _ before _ _ _ whole place long _ _ _ _ _ reached c.call-r.ensures)
