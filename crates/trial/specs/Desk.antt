-- What reading a deck text into the desk's buffers answers.
use Rattle.std.specs.Prelude.{ℕ, ◌*◌, Result, Ok, Err}
use Rattle.decktext.specs.Read.{Said, taken, refused}
use Rattle.trial.specs.declared.case.Ended.{Ended}
use Rattle.trial.specs.declared.case.Ended.TheVariants.{Malformed}

-- the cells of the orders read, four each; a case whose text is refused is not of the form
abbrev pub cells_said : Said → Result ℕ Ended
cells_said (taken n) = Ok (n * 4)
cells_said (refused k l) = Err Malformed
