-- `stretch::jump::has_jump` meets its contract: `any` goes through every order. Assumes nothing.
use Rattle.std.proofs.Common.{◌/◌, ℕ, arith, refl, length, rules, tests}
use Rattle.std.proofs.lemmas.Iterator.{cases_from_any, YieldsList-from_range}
use Rattle.orders.proofs.Ranges.{any_below}
use Rattle.stretch.specs.Jump.{IsJump}
use Rattle.stretch.proofs.Answering.{jump_said}
use Rattle.stretch.proofs.jump.has_jump.Goals as goal

pub returns : goal.returns
returns c =
    let d = c.args.deck.now in
    let n = length d / 4 in
    let no : ℕ → Type 0 = λ q. IsJump d q → ⊥ in
    let cases = cases_from_any _ _ c.any.result (IsJump d) no c.any.ensures.ran (YieldsList-from_range 0 n n refl (omega arith)) (λ x q k. search (rules, tests)) (λ x q k. search (rules, tests)) in
    jump_said d c.any.result (any_below (IsJump d) no n c.any.result cases)
