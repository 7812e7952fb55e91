-- A text that is too short, a number that is not of the form, one number more, and the end.
use Rattle.std.proofs.Common.{rules, sym, ◌∙◌, ◌≡◌, ◌<◌, ◌≤◌, ap, drop, get_or, length, take, Ok, Err}
use Rattle.std.proofs.lemmas.List.{drop-drop, take_all, take_more_set}
use Rattle.trial.specs.Number.{number_of}
use Rattle.trial.proofs.ByDigits.{field_bad, field_more, no_width, past_one, too_short}
use Rattle.trial.proofs.digits.numbers.Goals as goal

pub returns-in_default : goal.returns-in_default
returns-in_default g c = sym (too_short c.args.base (take c.loop-i.i c.loop-i.values) c.loop-i.rest.now c.args.widths c.loop-i.i (search rules) (search rules)) ∙ c.loop-i.invariant.1

pub returns-in_err-values : goal.returns-in_err-values
returns-in_err-values g c =
    let w = get_or c.args.widths c.loop-i.i 0 in
    let room : w ≤ length c.loop-i.rest.now = search rules in
    let front : c.in-Some.digits.now ≡ take w c.loop-i.rest.now = search rules in
    let bad : number_of c.args.base (take w c.loop-i.rest.now) ≡ Err c.in_err-values.field-0.0 = rw (← front) (sym c.number.ensures ∙ c.in_err-values.was) in
    let same : c.from_residual.result ≡ Err c.in_err-values.field-0.0 = search rules in
    same ∙ sym (field_bad c.args.base (take c.loop-i.i c.loop-i.values) c.loop-i.rest.now c.args.widths c.loop-i.i (search rules) room bad) ∙ c.loop-i.invariant.1

pub loop-i-preserved : goal.loop-i-preserved
loop-i-preserved g c =
    let w = get_or c.args.widths c.loop-i.i 0 in
    let room : w ≤ length c.loop-i.rest.now = search rules in
    let front : c.in-Some.digits.now ≡ take w c.loop-i.rest.now = search rules in
    let good : number_of c.args.base (take w c.loop-i.rest.now) ≡ Ok c.in_ok-values.field-0 = rw (← front) (sym c.number.ensures ∙ c.in_ok-values.was) in
    let back : c.in-Some.after.now ≡ drop w c.loop-i.rest.now = search rules in
    let place : c.loop-i.i < length c.loop-i.values = search rules in
    let rest = past_one c.min.result c.in-Some.after.now c.min.ensures ∙ ap (drop 1) back ∙ drop-drop 1 w c.loop-i.rest.now in (
      search rules,
      rw (take_more_set c.loop-i.values c.loop-i.i c.in_ok-values.field-0 place, rest)
          (field_more c.args.base (take c.loop-i.i c.loop-i.values) c.loop-i.rest.now c.args.widths c.loop-i.i (search rules) room good ∙ c.loop-i.invariant.1),
    )

pub returns : goal.returns
returns g c =
    ap Ok (sym (take_all c.loop-i.i c.loop-i.values (search rules)))
    ∙ sym (no_width c.args.base (take c.loop-i.i c.loop-i.values) c.loop-i.rest.now c.args.widths c.loop-i.i (search rules))
    ∙ c.loop-i.invariant.1
