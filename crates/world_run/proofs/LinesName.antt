-- An event that has a line names processes.
use Rattle.std.proofs.Common.{ℕ}
use Rattle.abstract_run.specs.declared.label.Event.{Event}
use Rattle.abstract_run.specs.declared.label.Event.TheVariants as event
use Rattle.run_text.specs.ScheduleText.{HasLine}
use Rattle.world_run.specs.Served.{NamesProcesses}

pub named : (n : ℕ) (e : Event) → HasLine n e → NamesProcesses n e
named n (event.Turn p c) h = h.0
named n (event.Arrive q p) h = h
named n (event.Lose q p i) h = h.0
named n (event.Copy q p i) h = h.0
named n (event.Move q p i j) h = h.0
named n (event.Damage q p i bytes) h = (h.0, h.2)
named n (event.Forge q p bytes) h = (h.0, h.1)
named n (event.Cut p k) h = h.0
