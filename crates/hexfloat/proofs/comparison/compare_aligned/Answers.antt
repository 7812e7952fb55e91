-- `compare_aligned` meets its contract: what is ranked are the aligned fractions.
use mathlib.Core.Path.{ap, ◌∙◌}
use Rattle.hexfloat.specs.declared.alignment.Prealigned.{Prealigned}
use Rattle.hexfloat.specs.Compare.{signed_rank, compared_aligned}
use Rattle.hexfloat.specs.Operand.{prealigned}
use Rattle.hexfloat.proofs.comparison.compare_aligned.Goals as goal

pub returns : goal.returns
unfolding compared_aligned prealigned
returns c =
    let a = c.args in
    c.rank_signed.ensures ∙ ap (λ (p : Prealigned). signed_rank a.x.sign p.first a.y.sign p.second) c.prealign-p.ensures
