-- The general registers: two sets of eight, of which one is in use at a time (2.2.1; document 02, Job 8).
use Rattle.std.specs.Prelude.{ℕ, ◌+◌, ◌*◌, List, cond, ◌&&◌, leb, get_or}

-- which of the sixteen register r of set s is
abbrev pub general_cell : ℕ → ℕ → ℕ
general_cell s r = s * 8 + r

-- what it holds; where there is no such set or register, 0
unfoldable pub general_at : List ℕ → ℕ → ℕ → ℕ
general_at n s r = cond (leb s 1 && leb r 7) (get_or n (general_cell s r) 0) 0
