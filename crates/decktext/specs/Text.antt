-- Lines and values (document 01, 'Deck text': one blank between values, every line ended by LF).
use Rattle.std.specs.Prelude.{ℕ, List, [], ◌∷◌, Bool, true, false, cond, ◌&&◌, eqb}

-- a line is what an LF ends; bytes after the last LF are an unended line
pub data Line : Type 0 where
  ended : List ℕ → Line
  unended : List ℕ → Line

-- a byte before the first of some lines
abbrev pub joined : ℕ → List Line → List Line
joined b [] = unended (b ∷ []) ∷ []
joined b (ended l ∷ ls) = ended (b ∷ l) ∷ ls
joined b (unended l ∷ ls) = unended (b ∷ l) ∷ ls

unfoldable pub lines_of : List ℕ → List Line
lines_of [] = []
lines_of (b ∷ t) = cond (eqb b 10) (ended [] ∷ lines_of t) (joined b (lines_of t))

-- a byte before the first of some values
abbrev pub prefixed : ℕ → List (List ℕ) → List (List ℕ)
prefixed b [] = (b ∷ []) ∷ []
prefixed b (v ∷ vs) = (b ∷ v) ∷ vs

-- values are what single blanks part: two blanks have an empty value between them
unfoldable pub values_of : List ℕ → List (List ℕ)
values_of [] = [] ∷ []
values_of (b ∷ t) = cond (eqb b 32) ([] ∷ values_of t) (prefixed b (values_of t))

-- the same bytes
unfoldable pub same : List ℕ → List ℕ → Bool
same [] [] = true
same [] (y ∷ ys) = false
same (x ∷ xs) [] = false
same (x ∷ xs) (y ∷ ys) = eqb x y && same xs ys
