-- A text without index is read as it was before storage orders were indexed.
use Prim.Native.Nat.{ℕ, ◌+◌}
use mathlib.Core.Path.{◌≡◌, refl, ap, ◌∙◌}
use mathlib.Core.List.{List, [], ◌∷◌}
use mathlib.Core.Bool.{cond}
use Rattle.hexfloat.specs.Answer.{Answer, gives, stops, mapped, provided, and_then}
use Rattle.orders.specs.declared.order.Operation.{Operation}
use Rattle.orders.specs.declared.order.Order.{Order}
use Rattle.orders.specs.Order.{legal_of}
use Rattle.orders.specs.Unindexed.{unindexed_row, unindexed_legal, NoIndex}
use Rattle.orders.proofs.Unindexed.{legal_unindexed}
use Rattle.decktext.specs.Text.{Line, ended, unended, lines_of, same}
use Rattle.decktext.specs.Format.{passes, order_of}
use Rattle.decktext.specs.Read.{Buffers, Wanted, heading, order, storage, halfword, Progress, start, Given, parted, order_fits, line_by, line_as, line_read, progressed, Read, read_on, lines_read_by, lines_read, read_text}
use Rattle.decktext.specs.Unindexed.{unindexed_order_of, unindexed_line_read, unindexed_read_text, NoIndexLine, NoIndexLines}
use Rattle.decktext.proofs.Forms.{order-legal}

passes_unindexed : (o : Order) → NoIndex o → passes (unindexed_legal o) ≡ passes (legal_of o)
passes_unindexed o none = rw (legal_unindexed o none) (cases (legal_of o))
  where
    cases : (r : Answer Operation) → passes (mapped unindexed_row r) ≡ passes r
    cases (gives op) = refl
    cases (stops n) = refl

-- ---- one line

order_unindexed : (line : List ℕ) → NoIndexLine (ended line) → order_of line ≡ unindexed_order_of line
order_unindexed line none = cases (order_of line) refl
  where
    cases : (r : Answer Order) → order_of line ≡ r → r ≡ and_then r (λ o. provided (passes (unindexed_legal o)) 16 (gives o))
    cases (gives o) e = rw (passes_unindexed o (none o e) ∙ order-legal line o e)
    cases (stops n) e = refl

line_unindexed : (w : Wanted) (p : Progress) (line : List ℕ) → NoIndexLine (ended line) → line_as w p line ≡ line_by unindexed_order_of w p line
line_unindexed heading p line none = refl
line_unindexed order p line none =
    ap (λ (r : Answer Order). cond (same line []) (gives parted) (and_then r (order_fits p))) (order_unindexed line none)
line_unindexed storage p line none = refl
line_unindexed halfword p line none = refl

-- ---- all lines

on_same : (a : Answer Given) (p : Progress) (k : ℕ) (f g : Progress → Read) → ((q : Progress) → f q ≡ g q) → read_on a p k f ≡ read_on a p k g
on_same (gives x) p k f g h = h (progressed x p)
on_same (stops n) p k f g h = refl

lines_unindexed : (ls : List Line) (p : Progress) (k : ℕ) → NoIndexLines ls → lines_read ls p k ≡ lines_read_by unindexed_line_read ls p k
unfolding lines_read_by line_read NoIndexLines
lines_unindexed [] p k none = refl
lines_unindexed (unended l ∷ ls) p k none = refl
lines_unindexed (ended l ∷ ls) p k none =
    rw (line_unindexed p.wanted p l none.0)
    (on_same (unindexed_line_read p l) p k (λ q. lines_read ls q (k + 1)) (λ q. lines_read_by unindexed_line_read ls q (k + 1)) (λ q. lines_unindexed ls q (k + 1) none.1))

pub unindexed : (t : List ℕ) (b : Buffers) → NoIndexLines (lines_of t) → read_text t b ≡ unindexed_read_text t b
unfolding read_text unindexed_read_text
unindexed t b none = rw (lines_unindexed (lines_of t) (start b) 1 none)
