-- What `desk` writes for a deck text (document 01, 'The program `desk`').
use Rattle.std.specs.Prelude.{ℕ, zero, suc, ◌*◌, ◌+◌, List, [], ◌∷◌, ◌++◌, get_or, take, replicate}
use Rattle.orders.specs.General.{general_at}
use Rattle.protection.specs.Bits.{bitwise}
use Rattle.machine.specs.declared.state.Registers.{Registers}
use Rattle.machine.specs.Fresh.{fresh_state}
use Rattle.machine.specs.Machine.{Machine, machine}
use Rattle.machine.specs.Run.{ran}
use Rattle.machine.specs.Step.{Outcome}
use Rattle.decktext.specs.Read.{Buffers, buffers, Said, taken, refused, read_text}
use Rattle.listing.specs.Digits.{decimal, hexadecimal}

-- `stop line`
abbrev pub refusal_heading : List ℕ
refusal_heading = 115 ∷ 116 ∷ 111 ∷ 112 ∷ 32 ∷ 108 ∷ 105 ∷ 110 ∷ 101 ∷ 10 ∷ []

-- `steps stop next cc mask`
abbrev pub run_heading : List ℕ
run_heading =
    115 ∷ 116 ∷ 101 ∷ 112 ∷ 115 ∷ 32 ∷ 115 ∷ 116 ∷ 111 ∷ 112 ∷ 32 ∷ 110 ∷ 101 ∷ 120 ∷ 116 ∷ 32 ∷ 99 ∷ 99 ∷ 32 ∷ 109 ∷ 97 ∷ 115 ∷ 107 ∷ 10 ∷ []

-- `reg float general`
abbrev pub register_heading : List ℕ
register_heading = 114 ∷ 101 ∷ 103 ∷ 32 ∷ 102 ∷ 108 ∷ 111 ∷ 97 ∷ 116 ∷ 32 ∷ 103 ∷ 101 ∷ 110 ∷ 101 ∷ 114 ∷ 97 ∷ 108 ∷ 10 ∷ []

-- a number in decimal, and the byte after it: a blank is 32, a line's end 10
abbrev pub field : ℕ → ℕ → List ℕ
field n after = decimal n ++ (after ∷ [])

-- a refused text writes `stop line` and the two values
unfoldable pub refusal : ℕ → ℕ → List ℕ
refusal number line = refusal_heading ++ (field number 32 ++ field line 10)

-- a register's number and both contents
abbrev pub register_line : ℕ → ℕ → ℕ → List ℕ
register_line r f g = ((48 + r) ∷ 32 ∷ []) ++ (hexadecimal 8 f ++ ((32 ∷ []) ++ (hexadecimal 8 g ++ (10 ∷ []))))

-- the lines of the first k registers: the float ones, and the general ones of the selected set s (document 02, Job 8)
unfoldable pub register_lines : ℕ → List ℕ → List ℕ → ℕ → List ℕ
register_lines zero f g s = []
register_lines (suc k) f g s = register_lines k f g s ++ register_line k (get_or f k 0) (general_at g s k)

-- steps taken, stop, pointer, condition code and mask, then the registers
unfoldable pub listed : ℕ → ℕ → Registers → List ℕ
listed steps stop g =
    run_heading
    ++ (field steps 32 ++ (field stop 32 ++ (field g.status.pointer 32 ++ (field g.status.condition 32 ++ (field g.status.mask 10
    ++ (register_heading ++ register_lines 8 g.float g.general g.status.selector))))))

-- 4,096 blank halfwords, unprotected, and cells for 4,096 orders; the protect list of 4,096 halfwords has 512 bytes
abbrev pub blank : Buffers
blank = buffers (replicate 16384 0) (replicate 4096 0) (bitwise (replicate 512 0))

-- from a fresh state and a journal of 4,096 words, to a stop, at seat 0 (document 02, Job 12); the run gets the cells of the orders read
abbrev pub ran_from : ℕ → Buffers → Outcome Machine
ran_from n b = ran (take (n * 4) b.cells) b.protect 0 4294967295 (machine fresh_state b.memory (replicate 4096 0))

abbrev pub listed_run : Outcome Machine → List ℕ
listed_run r = listed r.taken r.stop r.after.state.seat0

abbrev pub answered : Said → Buffers → List ℕ
answered (taken n) b = listed_run (ran_from n b)
answered (refused number line) b = refusal number line

unfoldable pub listing_of : List ℕ → List ℕ
listing_of text = answered (read_text text blank).said (read_text text blank).after
