use Rattle.decktext.proofs.Names.{code_long, code_by_key_lem}
use Rattle.decktext.specs.Key.{code_by_key}
use mathlib.Core.Path.{sym, ap, ◌∙◌}
use native.Mathlib.Omega.{arith}
use Rattle.decktext.proofs.mnemonic.mnemonic_code.Goals as goal

pub returns-then-v-gt4 : goal.returns-then-v-gt4
returns-then-v-gt4 c = sym (code_long _ c.if-v-gt4.true)

pub returns : goal.returns
returns c =
    c.look_up.ensures
    ∙ ap code_by_key c.key.ensures.0
    ∙ sym (code_by_key_lem c.args.v.now (λ i h. omega (arith, c.type_inv.v i)) c.if-v-gt4.false)
