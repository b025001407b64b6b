-- The command that words ask for.
use Rattle.std.specs.Prelude.{Option, Some, None}
use Rattle.tapc_core.specs.Command.{Command}
use Rattle.tapc_core.specs.Words.{Asked, check, make, print, replay, soak, world}
use Rattle.tapc_core.specs.commands.Check.{check_command}
use Rattle.tapc_core.specs.commands.Make.{make_command}
use Rattle.tapc_core.specs.commands.NoCommand.{no_command}
use Rattle.tapc_core.specs.commands.Print.{print_command}
use Rattle.tapc_core.specs.commands.Replay.{replay_command}
use Rattle.tapc_core.specs.commands.Soak.{soak_command}
use Rattle.tapc_core.specs.commands.World.{world_command}

abbrev pub command_for : Option Asked → Command
command_for None = no_command
command_for (Some (check system)) = check_command system
command_for (Some (print system)) = print_command system
command_for (Some (world system schedule seed settings)) = world_command system schedule seed settings
command_for (Some (replay system trace settings)) = replay_command system trace settings
command_for (Some (make system seed events faults)) = make_command system seed events faults
command_for (Some (soak system seed events faults settings)) = soak_command system seed events faults settings
