-- `sum` meets its contract: a word's parts are in range, and so is the addend.
use mathlib.Core.Path.{◌≡◌, subst⁻¹}
use Prim.Native.Nat.{ℕ}
use native.Mathlib.Omega.{arith}
use Rattle.hexfloat.specs.declared.addition.Sense.{Sense}
use Rattle.hexfloat.specs.declared.word.Parts.{Parts}
use Rattle.hexfloat.specs.Add.{addend_of, summed, summed_words}
use Rattle.hexfloat.specs.Operand.{Operand, Operands}
use Rattle.hexfloat.specs.Word.{digits_of}
use Rattle.hexfloat.proofs.Fits.{held, addend_fits}
use Rattle.hexfloat.proofs.addition.sum.Goals as goal
use Rattle.hexfloat.proofs.addition.sum.Goals.{After-parts-y}

-- the parts of both operands are in range
fits : (c : After-parts-y) → Operands (digits_of c.args.width) c.parts-x.result c.parts-y.result
fits c =
    let a = c.args in
    held a.width a.a a.b c.parts-x.ensures c.parts-y.ensures (record { high = omega arith; low = omega arith }) (record { high = omega arith; low = omega arith })

-- an addend is in range where its operand is
addend_held : (d : ℕ) (s : Sense) (p q : Parts) → q ≡ addend_of s p → Operand d p → Operand d q
addend_held d s p q e o = subst⁻¹ (Operand d) e (addend_fits s o)

pub add_parts-requires : goal.add_parts-requires
add_parts-requires c = search (fits (goal.at.add_parts-requires c).After-parts-y, c.addend.ensures, addend_held)

pub returns : goal.returns
unfolding summed_words summed
returns c = rw (c.add_parts.ensures, c.addend.ensures, c.parts-y.ensures, c.parts-x.ensures)
