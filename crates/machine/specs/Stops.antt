-- The paper's number of each way in which a call ends (document 01, 'Causes and their numbers'; document 02, Job 12); a taken step answers 0.
use Rattle.std.specs.Prelude.{ℕ}
use Rattle.machine.specs.declared.stop.Stop.{Stop}

abbrev pub number_of : Stop → ℕ
number_of Stop.Taken = 0
number_of Stop.DeckSize = 1
number_of Stop.BufferSize = 2
number_of Stop.StateForm = 3
number_of Stop.PointerPast = 4
number_of Stop.IllegalOrder = 5
number_of Stop.AbsentStorage = 6
number_of Stop.ProtectedStorage = 7
number_of Stop.ZeroDivisor = 8
number_of Stop.Overflow = 9
number_of Stop.Underflow = 10
number_of Stop.ConvertOverflow = 11
number_of Stop.Halted = 12
number_of Stop.JournalFull = 13
number_of Stop.NothingBefore = 14
number_of Stop.RecordForm = 15
number_of Stop.SeatAbsent = 20
