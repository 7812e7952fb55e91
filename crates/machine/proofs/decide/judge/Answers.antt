-- `machine::decide::judge` meets its contract: each `return` rewrites with the checks that led there.
-- Assumes nothing.
use Rattle.std.proofs.Common.{◌/◌, sym, ◌∙◌, arith, le-ltb, lt-ltb}
use Rattle.machine.specs.Decide.{judged}
use Rattle.machine.proofs.decide.judge.Goals as goal

pub returns-then-halts : goal.returns-then-halts
unfolding judged
returns-then-halts c = rw (← c.halts.ensures, c.if-halts.true)

pub returns-then-full : goal.returns-then-full
unfolding judged
returns-then-full c =
    let a = c.args in
    let none = le-ltb a.used (a.journal / 4) (omega (arith, c.if-full.true)) in
    rw (← c.halts.ensures, c.if-halts.false, none)

pub returns-then-not-is_present : goal.returns-then-not-is_present
unfolding judged
returns-then-not-is_present c =
    let a = c.args in
    let room = lt-ltb a.used (a.journal / 4) (omega (arith, c.if-full.false)) in
    rw (
      ← c.halts.ensures,
      c.if-halts.false,
      room,
      ← c.address-at.ensures,
      ← c.span.ensures,
      ← c.is_present.ensures,
      c.if-not-is_present.true,
    )

pub returns-then-any_protected : goal.returns-then-any_protected
unfolding judged
returns-then-any_protected c =
    let a = c.args in
    let room = lt-ltb a.used (a.journal / 4) (omega (arith, c.if-full.false)) in
    rw (
      ← c.halts.ensures,
      c.if-halts.false,
      room,
      ← c.address-at.ensures,
      ← c.span.ensures,
      ← c.is_present.ensures,
      c.if-not-is_present.false,
      ← c.stored.ensures,
      ← c.any_protected.ensures,
      c.if-any_protected.true,
    )

pub returns : goal.returns
unfolding judged
returns c =
    let a = c.args in
    let room = lt-ltb a.used (a.journal / 4) (omega (arith, c.if-full.false)) in
    let there = rw c.span.ensures at (sym c.is_present.ensures ∙ c.if-not-is_present.false) in
    let free = rw c.stored.ensures at (sym c.any_protected.ensures ∙ c.if-any_protected.false) in
    rw (
      ← c.halts.ensures,
      c.if-halts.false,
      room,
      ← c.address-at.ensures,
      there,
      free,
    )
    c.effect.ensures
