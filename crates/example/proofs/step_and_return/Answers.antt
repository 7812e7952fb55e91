-- What memory's type says, that a halfword has 16 bits, is known of every `&mut [u16]`.
use Rattle.std.proofs.Common.{rules, sym, ◌∙◌}
use Rattle.example.proofs.Returns.{refused, returned}
use Rattle.example.proofs.step_and_return.Goals as goal

pub returns-then-number-ne0 : goal.returns-then-number-ne0
returns-then-number-ne0 c = refused _ _ _ _ (λ h. c.if-number-ne0.true (c.number.ensures ∙ h)) c.step-there.ensures

pub returns : goal.returns
returns c =
    returned _ _ _ _ (record { halfword = λ i. search rules })
    (sym c.number.ensures ∙ c.if-number-ne0.false)
    c.step-there.ensures
    c.back-again.ensures
