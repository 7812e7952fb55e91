-- `stretch::search::search` meets its contract. Assumes nothing.
use borrow.Author.Rules.{rules}
use native.Mathlib.Omega.{arith}
use Rattle.stretch.proofs.Searching.{whole_other, whole_on, whole_found}
use Rattle.stretch.proofs.search.search.Goals as goal

pub returns-then-number-lt6 : goal.returns-then-number-lt6
returns-then-number-lt6 c = (whole_other _ _ _ _ _ _ c.run_and_return-whole.ensures c.requires.0 c.number-number.ensures (λ h. omega (arith, h.least)), c.run_and_return-whole.ensures.left)

pub returns-then-number-gt11 : goal.returns-then-number-gt11
returns-then-number-gt11 c = (whole_other _ _ _ _ _ _ c.run_and_return-whole.ensures c.requires.0 c.number-number.ensures (λ h. omega (arith, h.most)), c.run_and_return-whole.ensures.left)

pub latest-first-requires : goal.latest-first-requires
latest-first-requires c = whole_on _ _ _ _ _ _ c.run_and_return-whole.ensures c.requires.1 c.registers_of-own.ensures c.registers_of-stopped.ensures

pub returns : goal.returns
returns c =
    whole_found _ _ _ _ _ _ c.run_and_return-whole.ensures c.requires.1 (record { halfword = λ i. search rules })
    c.registers_of-own.ensures c.registers_of-stopped.ensures c.number-number.ensures c.requires.0
    (record { least = omega (arith, c.if-number-lt6.false); most = omega (arith, c.if-number-gt11.false) }) c.latest-first.ensures
