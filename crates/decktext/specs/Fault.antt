-- The paper's number of each fault of a text (document 01, 'Causes and their numbers').
use Rattle.std.specs.Prelude.{ℕ}
use Rattle.decktext.specs.declared.fault.Fault.{Fault}

-- a line of wrong form; a lent buffer too short for the line, or the text above its limit
abbrev pub fault_number : Fault → ℕ
fault_number Fault.Malformed = 16
fault_number Fault.NoRoom = 17
