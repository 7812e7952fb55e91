use Rattle.std.proofs.Common.{MatchOption, ◌≡◌, ◌<◌, length, rules, tests}
use Rattle.std.specs.List.{AllWithin, HoldsAt}
use Rattle.std.proofs.lemmas.Iterator.{YieldsList-from_slice, IsFirst-from_position}
use Rattle.decktext.proofs.Lines.{part, length_part, found, none}
use Rattle.decktext.proofs.span.find.Goals as goal
use Rattle.decktext.proofs.span.find.Goals.{After-position}

-- what `position` answers of the part that is searched
first : (c : After-position) → MatchOption c.position.result (AllWithin (λ x. x ≡ c.args.b → ⊥) (part c.args.from c.args.end c.args.text.now) 0 (length (part c.args.from c.args.end c.args.text.now)))
    (λ k. (k < length (part c.args.from c.args.end c.args.text.now)) × HoldsAt (λ x. x ≡ c.args.b) (part c.args.from c.args.end c.args.text.now) k × AllWithin (λ x. x ≡ c.args.b → ⊥) (part c.args.from c.args.end c.args.text.now) 0 k)
first c = IsFirst-from_position _ _ c.position.result (λ x. x ≡ c.args.b) (λ x. x ≡ c.args.b → ⊥) c.position.ensures.ran (YieldsList-from_slice _ c.iter.ensures.rest) (λ x q k. search (rules, tests)) (λ x q k. search (rules, tests))

pub returns-in-Some : goal.returns-in-Some
returns-in-Some c =
    let size = length_part c.args.from c.args.end c.args.text.now c.requires.0 c.requires.1 in
    let f = rw (c.in-Some.is, size) at (first (goal.at.returns-in-Some c).After-position) in
    found c.args.text.now c.args.from c.args.end c.args.b c.requires.0 c.in-Some.k f.0 f.1 f.2

pub returns-in-None : goal.returns-in-None
returns-in-None c =
    let size = length_part c.args.from c.args.end c.args.text.now c.requires.0 c.requires.1 in
    none c.args.text.now c.args.from c.args.end c.args.b c.requires.0 (rw (c.in-None.is, size) at (first (goal.at.returns-in-None c).After-position))
