use Rattle.std.specs.Prelude.{Some}
use borrow.Author.Rules.{rules}
use mathlib.Core.Path.{◌≡◌, refl, sym, ap, ◌∙◌}
use native.Mathlib.Nat.{le_refl}
use native.Mathlib.Omega.{arith}
use Rattle.hexfloat.specs.Answer.{gives}
use Rattle.protection.specs.Bits.{bitwise}
use Rattle.decktext.specs.Read.{buffers, line_read}
use Rattle.decktext.specs.Walk.{LineRead, wanted_of, given_of}
use Rattle.decktext.proofs.Parsed.{on as on_value}
use Rattle.decktext.proofs.Forms.{placed_at, judged_with, faulty_with}
use Rattle.decktext.proofs.Walking.{reached, start, stageable, on, stopped, unfinished, at_fault, at_end}
use Rattle.decktext.proofs.deck.walk.Goals as goal
use Rattle.decktext.proofs.deck.walk.Goals.{In-Some, In-Ok}

-- the line that was read, as one of the text
line : (c : In-Some) → LineRead c.args.text.now c.lines.reader.at c.read.new.self.at (Some c.in-Some.bytes)
line c = rw c.lines.invariant.0 at c.in-Some.ensures.1

-- what the definition reads in it, where all its values are taken
given : (c : In-Ok)
    → line_read (reached c.lines.p c.lines.staged.halfwords c.lines.staged.values (buffers c.args.cells.now c.args.memory.now (bitwise c.args.protect.now))) c.in-Some.bytes.now
    ≡ gives (given_of c.in-Ok.g)
unfolding line_read
given c = judged_with (wanted_of c.lines.p.wanted) _ c.values_wanted-i-end.ensures c.loop-i.invariant (omega arith) ∙ sym (c.in-Ok.ensures _ c.lines.invariant.1.sized)

pub lines-init : goal.lines-init
lines-init c = (
  ap (λ t. t.now) c.new-reader.ensures.0,
  rw (c.new-reader.ensures.1, c.requires.1)
      (start (record { cells = refl; memory = refl; protect = refl; packed = refl }) (c.start-p.ensures (buffers c.args.cells.now c.args.memory.now (bitwise c.args.protect.now))) c.args.staged.now.size),
)

pub returns-then-is_done : goal.returns-then-is_done
returns-then-is_done c =
    at_end c.lines.staged c.lines.invariant.1 c.requires.0 (rw c.lines.invariant.0 at (c.is_done.ensures.0 (search rules))) c.at_end.result c.at_end.ensures

pub returns-in_default : goal.returns-in_default
returns-in_default c = at_fault (unfinished c.lines.invariant.1 (rw c.lines.invariant.0 at c.in_default.ensures.1).0 (search rules) refl) refl

pub loop-i-preserved : goal.loop-i-preserved
loop-i-preserved c =
    on_value c.loop-i.invariant c.loop-i-test.true c.find-to.ensures (le_refl _)
    (placed_at (wanted_of c.lines.p.wanted) _ c.values_wanted-i-end.result c.values_wanted-i-end.ensures (omega (arith, c.loop-i-test.true)))
    c.in-Some-value.v (sym c.in-Some-value.ensures)

pub returns-in_default-value : goal.returns-in_default-value
unfolding line_read
returns-in_default-value c =
    let l = line (goal.at.returns-in_default-value c).In-Some in
    at_fault (stopped c.lines.invariant.1 l.1 l.2 16
    (rw (← l.4) (faulty_with (wanted_of c.lines.p.wanted) _ c.values_wanted-i-end.ensures c.loop-i.invariant c.loop-i-test.true c.find-to.ensures (sym c.in_default-value.ensures)))) refl

pub returns-in-Err : goal.returns-in-Err
unfolding line_read
returns-in-Err c =
    let l = line (goal.at.returns-in-Err c).In-Some in
    at_fault (stopped c.lines.invariant.1 l.1 l.2 _ (rw l.4 at (judged_with (wanted_of c.lines.p.wanted) _ c.values_wanted-i-end.ensures c.loop-i.invariant (omega arith) ∙ sym (c.in-Err.ensures _ c.lines.invariant.1.sized)))) c.at.ensures

pub stage-requires : goal.stage-requires
stage-requires c =
    let l = line (goal.at.stage-requires c).In-Some in
    stageable c.lines.invariant.1 l.1 l.2 (given_of c.in-Ok.g) (rw l.4 at (given (goal.at.stage-requires c).In-Ok)) c.requires.0

pub lines-preserved : goal.lines-preserved
lines-preserved c =
    let l = line (goal.at.lines-preserved c).In-Some in (
      ap (λ t. t.now) c.in-Some.ensures.0 ∙ c.lines.invariant.0,
      on c.lines.invariant.1 l.1 l.2 (given_of c.in-Ok.g) (rw l.4 at (given (goal.at.lines-preserved c).In-Ok)) c.requires.0
          c.advance-p.result c.advance-p.ensures _ l.3 _ c.stage.ensures.0 _ c.stage.ensures.1,
    )
