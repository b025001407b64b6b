-- The numbers of the ways in which a run of the program ends.
use Rattle.std.specs.Prelude.{ℕ}
use Rattle.tapc_core.specs.declared.status.Status.{Status}
use Rattle.tapc_core.specs.declared.status.Status.TheVariants.{Done, Refused, Usage, BadSchedule, ReadFault, WriteFault, LinkFault, NoMemory, NotARun, WorldFull}

-- the status that the program ends with
abbrev pub status_number : Status → ℕ
status_number Done = 0
status_number Refused = 1
status_number Usage = 2
status_number BadSchedule = 3
status_number ReadFault = 4
status_number WriteFault = 5
status_number LinkFault = 6
status_number NoMemory = 7
status_number NotARun = 8
status_number WorldFull = 9
