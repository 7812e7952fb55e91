-- `compare_exact` meets its contract: the keys rank as the magnitudes do.
use mathlib.Core.Path.{ap₂, ◌∙◌}
use Prim.Native.Nat.{ℕ}
use Rattle.hexfloat.specs.Compare.{signed_rank}
use Rattle.hexfloat.proofs.Compared.{keys_rank}
use Rattle.hexfloat.proofs.comparison.compare_exact.Goals as goal

pub returns : goal.returns
returns c =
    let s = c.before.before.before in
    c.rank_signed.ensures
    ∙ ap₂ (λ (m n : ℕ). signed_rank s.args.x.sign m s.args.y.sign n) c.magnitude_key.ensures c.magnitude_key-2.ensures
    ∙ keys_rank s.requires.first s.requires.second
