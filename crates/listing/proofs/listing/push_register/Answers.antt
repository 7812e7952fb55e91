use native.Mathlib.Omega.{arith}
use Rattle.listing.proofs.Words.{word-length}
use Rattle.listing.proofs.listing.push_register.Goals as goal

pub push-requires-3 : goal.push-requires-3
push-requires-3 c = omega (arith, c.push_word.ensures.size, word-length 8 c.args.float)

pub push_word-requires-2 : goal.push_word-requires-2
push_word-requires-2 c = omega (arith, c.push_word.ensures.size, word-length 8 c.args.float)

pub push-requires-4 : goal.push-requires-4
push-requires-4 c = omega (arith, c.push_word.ensures.size, c.push_word-2.ensures.size, word-length 8 c.args.float, word-length 8 c.args.general)
