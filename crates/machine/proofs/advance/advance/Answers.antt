-- `machine::advance::advance` meets its contract: the invariant: what the steps so far and those that are left lead to, whatever registers the other seat has.
-- Assumes nothing.
use Rattle.std.proofs.Common.{[], sym, refl, ap, ◌∙◌, arith}
use Rattle.machine.specs.declared.state.Registers.{Registers}
use Rattle.machine.specs.declared.state.Status.{Status}
use Rattle.machine.specs.Machine.{registers}
use Rattle.machine.specs.Says.{says}
use Rattle.machine.proofs.Decided.{committable_seated}
use Rattle.machine.proofs.Runs.{under_on, under_stop, under_end}
use Rattle.machine.proofs.Seats.{committed-seated}
use Rattle.machine.proofs.advance.advance.Goals as goal

-- the other seat with its status and no registers, of which no check asks anything
abbrev bare : Status → Registers
bare s = registers [] [] s

pub returns-in-Err : goal.returns-in-Err
returns-in-Err c =
    let r = c.ended.ensures in
    λ o h. rw (r.0, r.1, r.2, r.3)
    (sym (under_stop _ _ _ _ _ _ _ (c.loop-count.invariant o h) _ (omega (arith, c.loop-count-test.true)) (sym (c.decide-v.ensures o h) ∙ ap says c.in-Err.is)))

pub record_of-record-requires : goal.record_of-record-requires
record_of-record-requires c =
    let other = bare c.args.other in
    let known = committable_seated _ _ _ _ _ _ _ _ _ (sym (c.decide-v.ensures other refl) ∙ ap says c.in-Ok.is) in
    (known.register, known.there, known.seat, known.status)

pub put-requires : goal.put-requires
put-requires c =
    let other = bare c.args.other in
    let known = committable_seated _ _ _ _ _ _ _ _ _ (sym (c.decide-v.ensures other refl) ∙ ap says c.in-Ok.is) in
    (known.register, known.selector)

pub store-requires : goal.store-requires
store-requires c =
    let other = bare c.args.other in
    let known = committable_seated _ _ _ _ _ _ _ _ _ (sym (c.decide-v.ensures other refl) ∙ ap says c.in-Ok.is) in
    known.there

pub write_record-requires : goal.write_record-requires
write_record-requires c =
    let other = bare c.args.other in
    let known = committable_seated _ _ _ _ _ _ _ _ _ (sym (c.decide-v.ensures other refl) ∙ ap says c.in-Ok.is) in
    known.room

pub overflow_add-used : goal.overflow_add-used
overflow_add-used c =
    let other = bare c.args.other in
    let known = committable_seated _ _ _ _ _ _ _ _ _ (sym (c.decide-v.ensures other refl) ∙ ap says c.in-Ok.is) in
    omega (arith, known.count)

pub loop-count-preserved : goal.loop-count-preserved
loop-count-preserved c =
    let after = c.put.ensures in
    λ o h. under_on _ _ _ _ _ _ _ (c.loop-count.invariant o h) _ _ (omega (arith, c.loop-count-test.true)) (sym (c.decide-v.ensures o h) ∙ ap says c.in-Ok.is)
    (rw (after.0, after.1, c.store.ensures, c.write_record.ensures, c.record_of-record.ensures) (committed-seated _ _ _ _ _ _ _))
    c.store.auto.memory
    c.write_record.auto.journal

pub returns : goal.returns
returns c =
    let r = c.ended-2.ensures in
    λ o h. rw (r.0, r.1, r.2, r.3) (sym (under_end _ _ _ _ _ _ _ (c.loop-count.invariant o h) (omega (arith, c.loop-count-test.false)) c.loop-count.auto.count-end))
