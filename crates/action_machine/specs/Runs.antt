-- Runs of bodies on a machine.
use Rattle.std.specs.Prelude.{◌≡◌, ℕ, ◌+◌, ◌≤◌, ℤ, List, [], take, drop, length, Some}
use Rattle.tap_base.specs.Ranges.{AreAllIn}
use Rattle.tap_exec.specs.Running.{Running}
use Rattle.timer_core.specs.Timing.{Timing}
use Rattle.rand_pcg.specs.Lcg.{Lcg}
use Rattle.drawn_choices.specs.Draws.{AreDrawn, after_words, word_from}
use Rattle.register_code.specs.declared.bad.Part.TheVariants as part
use Rattle.register_code.specs.declared.code.Code.{Code}
use Rattle.register_code.specs.declared.code.CodeAction.{CodeAction}
use Rattle.register_code.specs.declared.code.CodeMessage.{CodeMessage}
use Rattle.register_code.specs.declared.code.CodeProcess.{CodeProcess}
use Rattle.register_code.specs.declared.instr.Instr.{Instr}
use Rattle.register_code.specs.Loops.{cost}
use Rattle.register_code.specs.Registers.{cell_ranges, input_ranges}
use Rattle.register_code.specs.Running.{code_run}
use Rattle.register_code.specs.Verified.{received_fields}
use Rattle.sound_code.specs.Fitting.{ReceivedFit}
use Rattle.sound_code.specs.Promises.{FitsRunning, IsPartOf, opening_of}
use Rattle.code_draws.specs.Leading.{leads_code}
use Rattle.drawn_steps.specs.Acting.{Scene, moment_of}
use Rattle.drawn_steps.specs.Boxes.{Boxed, HasRoomFor, IsEmpty, IsOutboxOf, sends_of}
use Rattle.action_machine.specs.Machines.{HasAction, Placed}

-- ---- a body

-- what a body is run with: what it received, its inputs, and the cells and timers before it
pub record Task : Type 0 where
  pub code : Code
  pub number : ℕ
  pub process : CodeProcess
  pub action : CodeAction
  pub received : List ℤ
  pub inputs : List ℤ
  pub before : Running

-- The code is verified, and what the body is run with fits it.
pub record IsTask (t : Task) : Type 0 where
  pub verified : IsPartOf t.code t.number t.process t.action
  pub heard : ReceivedFit (received_fields t.code t.action) t.received
  pub inputs_fit : AreAllIn (input_ranges t.process) t.inputs
  pub fits : FitsRunning t.code t.number t.process t.before

-- The body of a task begins: nothing is sent and chosen, and there is room for all that it sends and chooses.
pub record Begins (messages : List CodeMessage) (instrs : List Instr) (received : List ℤ) (s : Scene) : Type 0 where
  pub task : Task
  pub is_task : IsTask task
  pub messages_are : messages ≡ task.code.messages
  pub instrs_are : instrs ≡ task.action.body
  pub received_are : received ≡ task.received
  pub opened : moment_of s [] ≡ opening_of task.action part.Body task.inputs (record task.before { choices = [] })
  pub empty : IsEmpty s.box
  pub room : HasRoomFor task.code.messages task.action.body s.box

-- how many registers hold cells, and how many hold cells and inputs
abbrev pub cells_of : CodeProcess → ℕ
cells_of process = length (cell_ranges process)

abbrev pub kept_of : CodeProcess → ℕ
kept_of process = cells_of process + length process.inputs

-- what a scene leaves: the first registers are the cells
abbrev pub left_in : CodeProcess → Scene → Running
left_in process s = record { cells = take (cells_of process) s.held.registers; timers = s.timers.states; sends = sends_of s.box; choices = [] }

-- So many instructions have led the body to its end, with the choices that the generator drew.
pub record Finishes (t : Task) (before after : Scene) (ran : ℕ) : Type 0 where
  pub runs : code_run t.code.messages t.action t.inputs t.received (record t.before { choices = after.box.chosen }) ≡ Some (left_in t.process after, ran)
  pub few : ran ≤ cost t.action.body
  pub drawn : AreDrawn (leads_code t.code.messages t.action t.inputs t.received t.before) (word_from before.generator) 0 after.box.chosen
  pub moved : after.generator ≡ after_words (length after.box.chosen) before.generator
  pub fits : FitsRunning t.code t.number t.process (left_in t.process after)
  pub inputs : drop (cells_of t.process) (take (kept_of t.process) after.held.registers) ≡ t.inputs
  pub inside : kept_of t.process ≤ length after.held.registers
  pub time : after.timers.time ≡ before.timers.time
  pub registers_room : after.held.registers_room ≡ before.held.registers_room
  pub counters_room : after.held.counters_room ≡ before.held.counters_room
  pub sends_room : after.box.sends_room ≡ before.box.sends_room
  pub values_room : after.box.values_room ≡ before.box.values_room
  pub choices_room : after.box.choices_room ≡ before.box.choices_room

-- The body that began has finished, and the steps have grown by the instructions that ran.
pub record Counts (t : Task) (before after : Scene) (steps steps_after : ℕ) : Type 0 where
  pub ran : ℕ
  pub finishes : Finishes t before after ran
  pub counted : steps_after ≡ steps + ran

abbrev pub CountsFinish : List CodeMessage → List Instr → List ℤ → Scene → Scene → ℕ → ℕ → Type 0
CountsFinish messages instrs received before after steps steps_after = (b : Begins messages instrs received before) → Counts b.task before after steps steps_after

-- ---- a call of run

-- The action is one of the machine's process, what it received fits, there is a timer for each that the process has, and
-- the outbox is empty and has the room of the process.
pub record CanRun (code : Code) (m : Placed) (number : ℕ) (received : List ℤ) (timers : Timing) (box : Boxed) : Type 0 where
  pub action : HasAction code m.process number
  pub heard : ReceivedFit (received_fields code action.action) received
  pub timers_counted : length timers.states ≡ action.of_process.timers
  pub empty : IsEmpty box
  pub room : IsOutboxOf code m.process box

-- what the body of an action begins with, with these choices
abbrev pub begun : Placed → Timing → List ℤ → Running
begun m timers choices = record { cells = m.cells; timers = timers.states; sends = []; choices = choices }

-- The body did what its code does, with the choices that the generator drew: cells, timers and sends are those of the code,
-- and so many instructions ran. All else stays.
pub record Ran (code : Code) (action : CodeAction) (received : List ℤ) (m m_after : Placed) (timers timers_after : Timing) (g g_after : Lcg) (box box_after : Boxed) (ran : ℕ) : Type 0 where
  pub runs : code_run code.messages action m.inputs received (begun m timers box_after.chosen)
      ≡ Some (record { cells = m_after.cells; timers = timers_after.states; sends = sends_of box_after; choices = [] }, ran)
  pub few : ran ≤ cost action.body
  pub drawn : AreDrawn (leads_code code.messages action m.inputs received (begun m timers [])) (word_from g) 0 box_after.chosen
  pub moved : g_after ≡ after_words (length box_after.chosen) g
  pub timers_counted : length timers_after.states ≡ length timers.states
  pub time : timers_after.time ≡ timers.time
  pub process : m_after.process ≡ m.process
  pub inputs : m_after.inputs ≡ m.inputs
  pub room : IsOutboxOf code m.process box_after

-- the same, and the steps have grown by the instructions that ran
pub record CountsRun (code : Code) (action : CodeAction) (received : List ℤ) (m m_after : Placed) (timers timers_after : Timing) (g g_after : Lcg) (box box_after : Boxed) (steps steps_after : ℕ) : Type 0 where
  pub ran : ℕ
  pub did : Ran code action received m m_after timers timers_after g g_after box box_after ran
  pub counted : steps_after ≡ steps + ran

-- of the action by its number
abbrev pub RunsAction : (code : Code) (number : ℕ) (received : List ℤ) (m m_after : Placed) (timers timers_after : Timing) (g g_after : Lcg) (box box_after : Boxed) (steps steps_after : ℕ) → Type 0
RunsAction code number received m m_after timers timers_after g g_after box box_after steps steps_after =
    (a : HasAction code m.process number) → CountsRun code a.action received m m_after timers timers_after g g_after box box_after steps steps_after
