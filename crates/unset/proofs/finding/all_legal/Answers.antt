-- `unset::finding::all_legal` meets its contract: `all` goes through every order.
-- Assumes nothing.
use Rattle.std.proofs.Common.{◌≡◌, ◌/◌, ℕ, arith, refl, length, rules, tests}
use Rattle.std.proofs.lemmas.Iterator.{cases_from_all, YieldsList-from_range}
use Rattle.hexfloat.specs.Answer.{stops}
use Rattle.orders.specs.Order.{order_at, legal_of}
use Rattle.orders.proofs.Ranges.{every_below}
use Rattle.unset.specs.Answer.{Legal}
use Rattle.unset.proofs.Legalities.{says_all_legal}
use Rattle.unset.proofs.finding.all_legal.Goals as goal

pub returns : goal.returns
returns c =
    let d = c.args.deck.now in
    let n = length d / 4 in
    let no : ℕ → Type 0 = λ p. legal_of (order_at d p) ≡ stops 5 in
    let cases = cases_from_all _ _ c.all.result (Legal d) no c.all.ensures.ran (YieldsList-from_range 0 n n refl (omega arith)) (λ x q k. search (rules, tests)) (λ x q k. search (rules, tests)) in
    says_all_legal d c.all.result (every_below (Legal d) no n c.all.result cases)
