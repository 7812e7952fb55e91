-- `to_float` meets its contract: the parts are in range, so the word is theirs.
use Rattle.hexfloat.specs.Convert.{to_float}
use Rattle.hexfloat.proofs.Fits.{float_fits}
use Rattle.hexfloat.proofs.convert.to_float.Goals as goal

pub short_word-requires : goal.short_word-requires
short_word-requires c = rw c.float_parts-p.ensures (float_fits _ c.ranges.w.fits)

pub returns : goal.returns
unfolding to_float
returns c = rw (c.condition_of.ensures, c.short_word.ensures, c.float_parts-p.ensures)
