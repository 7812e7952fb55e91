-- `to_fixed` meets its contract: each way out of the code has its law.
use mathlib.Core.Path.{sym}
use Prim.Native.Nat.{◌<◌}
use native.Mathlib.Nat.{pos_of_ne-zero}
use native.Mathlib.Omega.{arith}
use Rattle.hexfloat.specs.Word.{short_parts}
use Rattle.hexfloat.proofs.Converted.{fixed, fixed_of_zero, fixed_large, overflows}
use Rattle.hexfloat.proofs.Fits.{short_fits}
use Rattle.hexfloat.proofs.convert.to_fixed.Goals as goal

pub returns-then-p-eq0 : goal.returns-then-p-eq0
returns-then-p-eq0 c = sym (fixed_of_zero _ (rw c.short-p.ensures at c.if-p-eq0.true))

pub returns-then-p-gt73 : goal.returns-then-p-gt73
returns-then-p-gt73 c =
    let w = c.args.w in
    let e = c.short-p.ensures in
    let far : 73 < (short_parts w).characteristic = rw e at c.if-p-gt73.true in
    let some : 0 < (short_parts w).fraction = pos_of_ne-zero (rw e at c.if-p-eq0.false) in
    sym (overflows w (omega (arith, fixed_large (short_parts w) far some, (short_fits w c.ranges.w.fits).sign)))

pub returns-then-p-m : goal.returns-then-p-m
returns-then-p-m c = sym (overflows _ (rw (c.integer-m.ensures, c.short-p.ensures) at c.if-p-m.true))

pub returns : goal.returns
returns c =
    let e = c.short-p.ensures in
    let m = c.integer-m.ensures in
    rw (c.signed_condition.ensures, c.signed_word-word.ensures, m, e) (sym (fixed _ (rw (m, e) at c.if-p-m.false)))
