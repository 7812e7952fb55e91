use borrow.Author.Tests.{lt-ltb}
use Rattle.std.proofs.lemmas.Result.{err_from_is_err_and}
use Rattle.protection.specs.Bits.{bitwise}
use Rattle.decktext.specs.Read.{buffers, read_text}
use Rattle.decktext.proofs.Laws.{taken_fits}
use Rattle.decktext.proofs.Readings.{refusal, orders, said_taken, taking}
use Rattle.decktext.proofs.deck.read.Goals as goal

pub returns-then-text-gt32768 : goal.returns-then-text-gt32768
unfolding read_text
returns-then-text-gt32768 c = rw (lt-ltb 32768 _ c.if-text-gt32768.true)

pub returns-in_err-n : goal.returns-in_err-n
returns-in_err-n c =
    let e = err_from_is_err_and c.from_residual.result c.from_residual.ensures.1 in
    rw (e.1, e.2) (rw c.in_err-n.was at (refusal c.walk.ensures c.if-text-gt32768.false c.in_err-n.field-0.0 c.in_err-n.was))

pub put_orders-requires : goal.put_orders-requires
put_orders-requires c = let b = buffers c.args.cells.now c.args.memory.now (bitwise c.args.protect.now) in
    (orders {b = b} c.walk.ensures c.if-text-gt32768.false c.in_ok-n.n c.in_ok-n.was, taken_fits c.args.text.now b c.in_ok-n.n (said_taken {b = b} c.walk.ensures c.if-text-gt32768.false c.in_ok-n.n c.in_ok-n.was))

pub returns : goal.returns
returns c = taking c.walk.ensures c.if-text-gt32768.false c.in_ok-n.n c.in_ok-n.was _ _ _ c.put_orders.ensures c.put_halfwords.ensures.0 c.put_halfwords.ensures.1
