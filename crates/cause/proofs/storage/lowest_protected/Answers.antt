-- `cause::storage::lowest_protected` meets its contract: what `find` finds is the lowest.
-- Assumes nothing.
use Rattle.std.proofs.Common.{◌≡◌, true, false, rules, tests}
use Rattle.std.proofs.lemmas.Iterator.{first_from_Range}
use Rattle.protection.specs.Form.{is_protected}
use Rattle.protection.specs.Bits.{bitwise}
use Rattle.cause.proofs.Lowest.{lowest_found}
use Rattle.cause.proofs.storage.lowest_protected.Goals as goal

pub returns : goal.returns
returns c =
    let p = bitwise c.args.protect.now in
    let first = first_from_Range _ _ _ c.find.result (λ a. true ≡ is_protected p a) (λ a. false ≡ is_protected p a) c.find.ensures.ran (λ x q k. search (rules, tests)) (λ x q k. search (rules, tests)) in
    rw c.unwrap_or.ensures (lowest_found (is_protected p) _ _ c.find.result first)
