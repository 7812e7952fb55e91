-- `align` meets its contract: the guard digits fit a u64, and a fraction moved by 16 digits or more is gone.
use mathlib.Core.Path.{ap, ◌∙◌, sym}
use Prim.Native.Nat.{ℕ, ◌-◌, ◌*◌, ◌/◌, ◌^◌, ◌<◌}
use native.Mathlib.Nat.{lt_of_lt_of_le}
use native.Mathlib.Omega.{arith}
use Rattle.hexfloat.proofs.Aligned.{guarded_most, aligned_gone}
use Rattle.hexfloat.proofs.Digits.{mono, four_bits, moved_left}
use Rattle.hexfloat.specs.Align.{aligned}
use Rattle.hexfloat.proofs.alignment.align.Goals as goal
use Rattle.hexfloat.proofs.alignment.align.Goals.{Start}

-- with its guard digits a fraction has at most 16
sixteen : (s : Start) → s.args.p.fraction * 16 ^ s.args.guards < 16 ^ 16
sixteen s = lt_of_lt_of_le (guarded_most s.args.guards 14 s.requires.2) (mono {j = 16} (omega (arith, s.requires.0)))

pub returns-then-shift-gt15 : goal.returns-then-shift-gt15
returns-then-shift-gt15 c =
    let s = c.before.before in
    let p = s.args.p in
    sym (aligned_gone s.args.guards s.args.c p (lt_of_lt_of_le (sixteen s) (mono {i = 16} (omega (arith, c.if-shift-gt15.true)))))

pub returns : goal.returns
unfolding aligned
returns c =
    let s = c.before.before.before in
    let p = s.args.p in
    let k : ℕ = s.args.c - p.characteristic in
    ap (λ (x : ℕ). x / 2 ^ (4 * k)) (moved_left {w = 2 ^ 64} p.fraction s.args.guards (sixteen s))
    ∙ ap (λ (x : ℕ). p.fraction * 16 ^ s.args.guards / x) (four_bits k)
