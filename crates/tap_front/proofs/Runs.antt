-- A system that a text is accepted as is checked, so it is safe and can be run; and its messages are told apart.
use Rattle.tap_base.specs.declared.system.System.{System}
use Rattle.tap_base.specs.Wires.{wire_of}
use Rattle.byte_meaning.specs.Messages.{Receives}
use Rattle.tap_exec.specs.Semantics.{messages_of, semantics_of}
use Rattle.byte_meaning.specs.Apart.{TellsApart}
use Rattle.byte_meaning.proofs.Apart.{systems_mean}
use Rattle.byte_meaning.proofs.Receivers.{wires_say_the_same}
use Rattle.checked_systems.proofs.Running.{checked_runs}
use Rattle.checked_systems.proofs.Systems.{checked_sound}
use Rattle.tap_front.specs.Layouts.{IsLaidOut}
use Rattle.tap_front.specs.Laws.{AcceptedIsChecked, AcceptedIsSafe, AcceptedRuns, AcceptedSpellingsMean}
use Rattle.tap_front.proofs.Wholes.{resolved_is_whole}

pub accepted_is_checked : AcceptedIsChecked
accepted_is_checked text system h = record { resolved = resolved_is_whole text h.tree system h.read h.resolved; clear = h.clear }

pub accepted_is_safe : AcceptedIsSafe
accepted_is_safe text system h =
    let checked = accepted_is_checked text system h in
    let sound = (checked_sound system checked).1 in
    record { messages = checked.resolved.messages; begins = sound.begins; keeps = sound.keeps; computed = sound.computes }

pub accepted_runs : AcceptedRuns
accepted_runs text system h = checked_runs system (accepted_is_checked text system h)

-- messages that can be laid out are told apart in what a run asks of the system
pub told_apart : (system : System) → IsLaidOut (wire_of system) → TellsApart (messages_of system) (Receives (semantics_of system))
told_apart system h p q m n one other a b =
    let back = (wires_say_the_same system).1 in h.apart p q m n one other ((back p m q).1 a) ((back p n q).1 b)

pub accepted_spellings_mean : AcceptedSpellingsMean
accepted_spellings_mean text system h = (systems_mean (semantics_of system) (told_apart system h.laid_out)).0
