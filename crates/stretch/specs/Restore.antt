-- For the private functions: memory as it was before some steps, from their records (document 01, 'Journal and back steps').
use Rattle.std.specs.Prelude.{ℕ, zero, suc, ◌+◌, ◌*◌, ◌/◌, ◌%◌, ◌^◌, List, cond, eqb, leb, length}
use Rattle.machine.specs.declared.journal.Record.{Record}
use Rattle.machine.specs.Change.{put_word}
use Rattle.machine.specs.Journal.{record_at}

-- the halfwords that a record of kind 4 or 5 saves are put back, where they are there; the other kinds save none
unfoldable pub saved_back : Record → List ℕ → List ℕ
saved_back q m =
    cond (eqb (q.head / 2 ^ 19 % 8) 4) (cond (leb (q.place + 2) (length m)) (put_word q.place q.left m) m)
    (cond (eqb (q.head / 2 ^ 19 % 8) 5) (cond (leb (q.place + 4) (length m)) (put_word (q.place + 2) q.right (put_word q.place q.left m)) m)
    m)

-- those of record i, where the journal has it
unfoldable pub record_back : List ℕ → ℕ → List ℕ → List ℕ
record_back j i m = cond (leb (i * 4 + 4) (length j)) (saved_back (record_at j i) m) m

-- those of n records from `first` on, the last one first
unfoldable pub restored : List ℕ → ℕ → ℕ → List ℕ → List ℕ
restored j first zero m = m
restored j first (suc n) m = restored j first n (record_back j (first + n) m)
