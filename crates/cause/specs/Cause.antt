-- Why the next step of a seat is stopped: a number, and what it names (document 02, Jobs 5 and 12).
use Rattle.std.specs.Prelude.{ℕ, List, [], ◌∷◌, cond, ◌&&◌, ◌||◌, eqb, leb, length}
use Rattle.orders.specs.declared.order.Order.{Order}
use Rattle.protection.specs.Form.{ProtectList}
use Rattle.machine.specs.declared.state.Registers.{Registers}
use Rattle.machine.specs.Fetch.{operands_read}
use Rattle.machine.specs.Machine.{Machine}
use Rattle.machine.specs.Seats.{registers_of}
use Rattle.machine.specs.Step.{next_order, next_address, verdict_of}
use Rattle.cause.specs.declared.naming.Cause.{Cause}
use Rattle.cause.specs.declared.naming.Named.{Named}
use Rattle.cause.specs.Arithmetic.{stop_in}
use Rattle.cause.specs.Cell.{place_of, first_cell, breaks}
use Rattle.cause.specs.Storage.{lowest_absent, lowest_protected}
use Rattle.cause.specs.Words.{words_read}

-- the values of what is named: of a cell its place among the four (code 0, r1 1, r2 2, at 3), of an address itself, of words all of them, leftmost first
abbrev pub values_of : Named → List ℕ
values_of Named.Nothing = []
values_of (Named.Cell c) = place_of c ∷ []
values_of (Named.Address a) = a ∷ []
values_of (Named.OneWord a) = a ∷ []
values_of (Named.TwoWords a b) = a ∷ b ∷ []
values_of (Named.FourWords a b c d) = a ∷ b ∷ c ∷ d ∷ []

abbrev pub cause : ℕ → Named → Cause
cause k n = record { number = k; named = n }

-- the number k of a step's stop where it is 20 or one of 1 to 11; 18 where the step is stopped by none of 5 to 11: taken (0), HALT (12), a full journal (13)
unfoldable pub cause_number : ℕ → ℕ
cause_number k = cond (eqb k 0) 18 (cond (leb k 11 || eqb k 20) k 18)

-- 5 names a cell, 6 and 7 an address of S, which begins at a, 8 to 11 words, the others nothing
unfoldable pub named_for : ℕ → Order → Registers → List ℕ → ℕ → ProtectList → Named
named_for k o g m a p =
    cond (eqb k 5) (Named.Cell (first_cell (breaks o)))
    (cond (eqb k 6) (Named.Address (lowest_absent o a (length m)))
    (cond (eqb k 7) (Named.Address (lowest_protected o a p))
    (cond (leb 8 k && leb k 11) (words_read (operands_read o g.float g.general g.status.selector m a))
    Named.Nothing)))

-- an order that is stopped by k, or by nothing where k is 0
abbrev pub explained : ℕ → Order → Registers → List ℕ → ℕ → ProtectList → Cause
explained k o g m a p = cause (cause_number k) (named_for k o g m a p)

-- seat k's next order, and the stop of the machine's own decision about it
unfoldable pub why_of : List ℕ → ProtectList → ℕ → Machine → Cause
why_of d p k x = explained (stop_in (verdict_of d p k x)) (next_order d k x) (registers_of k x.state) x.memory (next_address d k x) p
