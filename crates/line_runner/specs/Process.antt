-- What each end of a run makes of the process: its status, and the line on standard error.
use Rattle.std.specs.Prelude.{ℕ, List, [], ◌∷◌, ◌++◌, codes, decimal}
use Rattle.line_runner.specs.declared.exit.Exit.{Exit}
use Rattle.line_runner.specs.declared.exit.Exit.TheVariants.{Done, Usage, ReadFault, WriteFault, BadLine, TooLong, TooMany, NoMemory, DoorFault, LinkFault, LinkEnded, LinkLong, BadRecord, LongJournal, StoreFault}

-- the status of a process
abbrev pub status : Exit → ℕ
status Done = 0
status Usage = 1
status ReadFault = 2
status WriteFault = 3
status (BadLine line) = 4
status (TooLong line) = 5
status TooMany = 6
status NoMemory = 7
status DoorFault = 8
status LinkFault = 9
status LinkEnded = 10
status LinkLong = 11
status (BadRecord place) = 12
status LongJournal = 13
status StoreFault = 14

-- the line on standard error, with its newline
abbrev pub report : Exit → List ℕ
report Done = []
report Usage = codes "usage\n"
report ReadFault = codes "read fault\n"
report WriteFault = codes "write fault\n"
report (BadLine line) = codes "bad line " ++ decimal line ++ 10 ∷ []
report (TooLong line) = codes "long line " ++ decimal line ++ 10 ∷ []
report TooMany = codes "too many lines\n"
report NoMemory = codes "no memory\n"
report DoorFault = codes "door fault\n"
report LinkFault = codes "link fault\n"
report LinkEnded = codes "link ended\n"
report LinkLong = codes "link line too long\n"
report (BadRecord place) = codes "bad record " ++ decimal place ++ 10 ∷ []
report LongJournal = codes "long journal\n"
report StoreFault = codes "store fault\n"
