-- `unset::finding::unset_bits` meets its contract: every order of the deck is legal, and the callee gives what it reads.
-- Assumes nothing.
use mathlib.Core.Path.{sym, ap, ◌∙◌}
use native.Mathlib.Omega.{arith}
use Rattle.orders.specs.Order.{legal_of}
use Rattle.orders.specs.Legality.{says_legality}
use Rattle.hexfloat.proofs.Answers.{never}
use Rattle.unset.proofs.Sized.{few_cells}
use Rattle.unset.proofs.finding.unset_bits.Goals as goal

pub overflow_cast-p : goal.overflow_cast-p
overflow_cast-p c = record { fits = omega (arith, few_cells _ c.requires.0.checked.sized) }

pub returns-in_default : goal.returns-in_default
returns-in_default c =
    let start = c in
    let passes = (start.requires.0.checked.legal start.args.p start.requires.1).legal in
    never (sym (ap says_legality c.in_default.is) ∙ c.legal.ensures.said ∙ ap legal_of c.order_at.ensures ∙ passes)

pub bounds-unwritten-place : goal.bounds-unwritten-place
bounds-unwritten-place c = let start = c in omega (arith, few_cells _ start.requires.0.checked.sized)

pub bounds-unwritten-place-2 : goal.bounds-unwritten-place-2
bounds-unwritten-place-2 c =
    let start = c in
    omega (arith, few_cells _ start.requires.0.checked.sized)
