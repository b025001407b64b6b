-- The opening state of a run.
use Rattle.std.specs.Prelude.{ℤ, false, List, map, flat_map, replicate, length, None}
use Rattle.tap_base.specs.declared.system.Var.{Var}
use Rattle.tap_base.specs.declared.system.Inputs.{Inputs}
use Rattle.abstract_run.specs.declared.state.State.{State}
use Rattle.tap_exec.specs.declared.running.TimerState.TheVariants.{Off}
use Rattle.abstract_run.specs.Channels.{channels_among}
use Rattle.tap_exec.specs.Semantics.{Semantics}

-- the cells of the variables, each with its initial value
abbrev pub opening_cells : List Var → List ℤ
opening_cells vars = flat_map (λ v. replicate v.cells v.initial) vars

-- Each variable has its initial value, all timers are off, all times are 0, no process is down or is to be cut off,
-- and the channels are empty.
abbrev pub opening_state : Semantics → Inputs → State
opening_state semantics inputs = record {
  inputs = inputs;
  stores = map (λ p. opening_cells p.vars) semantics.processes;
  timers = map (λ p. replicate p.timers Off) semantics.processes;
  times = replicate (length semantics.processes) 0;
  down = replicate (length semantics.processes) false;
  cuts = replicate (length semantics.processes) None;
  falling = None;
  channels = channels_among (length semantics.processes);
}
