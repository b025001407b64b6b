-- A machine of verified code can run the bodies of its process, and is one of its process after it.
use Rattle.std.proofs.Common.{◌≡◌, ◌≤◌, ℕ, zero, suc, ℤ, List, [], ◌∷◌, ◌++◌, map, take, drop, replicate, length, refl, ap, sym, subst, ◌∙◌, slice_get, Some, arith}
use Rattle.std.proofs.lemmas.List.{length-append, length-map, length-take}
use Rattle.rand_pcg.specs.Lcg.{Lcg}
use Rattle.tap_base.specs.Interval.{from_to}
use Rattle.tap_base.specs.Lists.{Each}
use Rattle.tap_base.specs.Ranges.{AreAllIn}
use Rattle.abstract_run.specs.Fits.{IsFitTimer}
use Rattle.timer_core.specs.Timing.{Timing}
use Rattle.register_code.specs.declared.bad.Part.TheVariants as part
use Rattle.register_code.specs.declared.code.Code.{Code}
use Rattle.register_code.specs.declared.code.CodeAction.{CodeAction}
use Rattle.register_code.specs.declared.code.CodeInput.{CodeInput}
use Rattle.register_code.specs.declared.code.CodeMessage.{CodeMessage}
use Rattle.register_code.specs.declared.code.CodeProcess.{CodeProcess}
use Rattle.register_code.specs.declared.code.CodeTemporary.{CodeTemporary}
use Rattle.register_code.specs.declared.instr.Instr.{Instr}
use Rattle.register_code.specs.Registers.{cell_ranges, input_ranges}
use Rattle.register_code.specs.Verified.{IsVerified, received_fields}
use Rattle.sound_code.specs.Fitting.{ReceivedFit}
use Rattle.sound_code.specs.Promises.{opening_of}
use Rattle.code_steps.specs.Holding.{Held}
use Rattle.drawn_steps.specs.Acting.{moment_of, scene}
use Rattle.drawn_steps.specs.Boxes.{Boxed, outgoing, sends_of}
use Rattle.drawn_steps.proofs.Roomy.{room_for}
use Rattle.action_machine.specs.Machines.{HasAction, HasRoom, IsMachineOf, Placed}
use Rattle.action_machine.specs.Runs.{Begins, CanRun, Counts, CountsFinish, CountsRun, Finishes, IsTask, RunsAction, Task, begun, cells_of, kept_of}
use Rattle.action_machine.proofs.Placing.{Holds, found, holds, one_found, same_action}

-- what is held when a body begins
abbrev pub opened : CodeAction → ℕ → Held → Held
opened action keep h = record h { next = 0; registers = take keep h.registers ++ map (λ (t : CodeTemporary). t.lo) action.temporaries; counters = replicate (length action.body) 0 }

take_less : (c k : ℕ) (xs : List ℤ) → c ≤ k → take c (take k xs) ≡ take c xs
take_less zero k xs l = refl
take_less (suc c) zero xs l = absurd (omega (arith, l))
take_less (suc c) (suc k) [] l = refl
take_less (suc c) (suc k) (x ∷ xs) l = ap (λ ys. x ∷ ys) (take_less c k xs (omega (arith, l)))

module _ (code : Code) (m : Placed) (n : ℕ) (received : List ℤ) (timers : Timing) (box : Boxed) (verified : IsVerified code) (machine : IsMachineOf code m) (can : CanRun code m n received timers box) (fit : Each IsFitTimer timers.states) (a : HasAction code m.process n) where
  process_is : machine.process ≡ a.of_process
  process_is = one_found (slice_get code.processes m.process) machine.process a.of_process machine.there a.there

  able_is : can.action.of_process ≡ a.of_process
  able_is = one_found (slice_get code.processes m.process) can.action.of_process a.of_process can.action.there a.there

  abbrev task : Task
  task = record { code = code; number = m.process; process = a.of_process; action = a.action; received = received; inputs = m.inputs; before = begun m timers [] }

  cells_fit : AreAllIn (cell_ranges a.of_process) m.cells
  cells_fit = subst (λ (p : CodeProcess). AreAllIn (cell_ranges p) m.cells) process_is machine.cells

  inputs_fit : AreAllIn (input_ranges a.of_process) m.inputs
  inputs_fit = subst (λ (p : CodeProcess). AreAllIn (input_ranges p) m.inputs) process_is machine.inputs

  timers_are : length timers.states ≡ a.of_process.timers
  timers_are = subst (λ (p : CodeProcess). length timers.states ≡ p.timers) able_is can.timers_counted

  pub is_task : IsTask task
  is_task = record {
    verified = record { verified = verified; there = a.there; number = n; declared = a.declared };
    heard = subst (λ (x : CodeAction). ReceivedFit (received_fields code x) received) (same_action code m.process n can.action a) can.heard;
    inputs_fit = inputs_fit;
    fits = record {
      running = record { cells = cells_fit; counted = timers_are; timers = fit };
      sends = tt;
    };
  }

  abbrev pub begins : (keep : ℕ) (h core : Held) (g : Lcg) (messages : List CodeMessage) (instrs : List Instr) → Holds m keep h → core ≡ opened a.action keep h → messages ≡ code.messages → instrs ≡ a.action.body
      → Begins messages instrs received (scene core timers box g)
  begins keep h core g messages instrs held core_is messages_are instrs_are = record {
    task = task;
    is_task = is_task;
    messages_are = messages_are;
    instrs_are = instrs_are;
    received_are = refl;
    opened = ap (λ (c : Held). moment_of (scene c timers box g) []) core_is
        ∙ ap (λ (xs : List ℤ). record { next = 0; registers = xs ++ map (λ (t : CodeTemporary). t.lo) a.action.temporaries; counters = replicate (length a.action.body) 0; timers = timers.states; sends = sends_of box; choices = [] }) held.first
        ∙ ap (λ os. record (opening_of a.action part.Body m.inputs (begun m timers [])) { sends = map (outgoing box.values) os }) can.empty.sent;
    empty = can.empty;
    room = room_for code m.process n a.of_process a.action box can.room a.there a.declared;
  }

  -- ---- after the run

  module _ (cells keep : ℕ) (h core last : Held) (timers_after : Timing) (box_after : Boxed) (g g_after : Lcg) (steps steps_after : ℕ) (messages : List CodeMessage) (instrs : List Instr) (held : Holds m keep h) (cells_is : cells ≡ length m.cells)
      (core_is : core ≡ opened a.action keep h) (messages_are : messages ≡ code.messages) (instrs_are : instrs ≡ a.action.body)
      (counts : CountsFinish messages instrs received (scene core timers box g) (scene last timers_after box_after g_after) steps steps_after) where
    finished : Counts task (scene core timers box g) (scene last timers_after box_after g_after) steps steps_after
    finished = counts (begins keep h core g messages instrs held core_is messages_are instrs_are)

    done : Finishes task (scene core timers box g) (scene last timers_after box_after g_after) finished.ran
    done = finished.finishes

    keep_is : keep ≡ kept_of a.of_process
    keep_is = omega (
      arith,
      ap length held.first,
      length-take keep h.registers,
      length-append m.cells m.inputs,
      held.inside,
      cells_fit.counted,
      inputs_fit.counted,
      length-map a.of_process.inputs (λ (i : CodeInput). from_to i.lo i.hi),
    )

    counted_cells : cells ≡ cells_of a.of_process
    counted_cells = cells_is ∙ cells_fit.counted

    left_cells : take cells (take keep last.registers) ≡ take (cells_of a.of_process) last.registers
    left_cells = take_less cells keep last.registers (omega (arith, keep_is, counted_cells)) ∙ ap (λ (k : ℕ). take k last.registers) counted_cells

    left_inputs : drop cells (take keep last.registers) ≡ m.inputs
    left_inputs = ap (λ (k : ℕ). drop k (take keep last.registers)) counted_cells ∙ ap (λ (k : ℕ). drop (cells_of a.of_process) (take k last.registers)) keep_is ∙ done.inputs

    pub inside_after : keep ≤ length last.registers
    inside_after = omega (arith, keep_is, done.inside)

    module _ (m_after : Placed) (m_is : m_after ≡ record { process = m.process; cells = take cells (take keep last.registers); inputs = drop cells (take keep last.registers); registers_room = last.registers_room; counters_room = last.counters_room }) where
      cells_after : m_after.cells ≡ take (cells_of a.of_process) last.registers
      cells_after = ap (λ (p : Placed). p.cells) m_is ∙ left_cells

      inputs_after : m_after.inputs ≡ m.inputs
      inputs_after = ap (λ (p : Placed). p.inputs) m_is ∙ left_inputs

      pub counts_run : CountsRun code a.action received m m_after timers timers_after g g_after box box_after steps steps_after
      counts_run = record {
        ran = finished.ran;
        did = record {
          runs = done.runs ∙ ap (λ (xs : List ℤ). Some (record { cells = xs; timers = timers_after.states; sends = sends_of box_after; choices = [] }, finished.ran)) (sym cells_after);
          few = done.few;
          drawn = done.drawn;
          moved = done.moved;
          timers_counted = done.fits.running.counted ∙ sym timers_are;
          time = done.time;
          process = ap (λ (p : Placed). p.process) m_is;
          inputs = inputs_after;
          room = record {
            of_process = can.room.of_process;
            there = can.room.there;
            sends_room = done.sends_room ∙ can.room.sends_room;
            values_room = done.values_room ∙ can.room.values_room;
            choices_room = done.choices_room ∙ can.room.choices_room;
          };
        };
        counted = finished.counted;
      }

      pub machine_after : IsMachineOf code m_after
      machine_after = record {
        process = a.of_process;
        there = subst (λ (q : ℕ). slice_get code.processes q ≡ Some a.of_process) (sym (ap (λ (p : Placed). p.process) m_is)) a.there;
        cells = subst (AreAllIn (cell_ranges a.of_process)) (sym cells_after) done.fits.running.cells;
        inputs = subst (AreAllIn (input_ranges a.of_process)) (sym inputs_after) inputs_fit;
        room = λ number action at. room_after number action (machine.room number action (subst (λ (p : CodeProcess). slice_get p.actions number ≡ Some action) (sym process_is) at));
      } where
        room_after : (number : ℕ) (action : CodeAction) → HasRoom m action → HasRoom m_after action
        room_after number action r =
            let registers_is = ap (λ (p : Placed). p.registers_room) m_is ∙ done.registers_room ∙ ap (λ (c : Held). c.registers_room) core_is ∙ sym held.registers_room in
            let counters_is = ap (λ (p : Placed). p.counters_room) m_is ∙ done.counters_room ∙ ap (λ (c : Held). c.counters_room) core_is ∙ sym held.counters_room in
            record {
              registers = omega (arith, r.registers, registers_is, ap length inputs_after, ap length cells_after, done.fits.running.cells.counted, cells_fit.counted);
              guard = omega (arith, r.guard, counters_is);
              body = omega (arith, r.body, counters_is);
            }

-- ---- as the function finds it

-- how many cells there are, of the machine that is seen
pub cells_seen : (m : Placed) (cells keep process : ℕ) (h : Held) → cells ≤ keep → keep ≤ length h.registers
    → m ≡ record { process = process; cells = take cells (take keep h.registers); inputs = drop cells (take keep h.registers); registers_room = h.registers_room; counters_room = h.counters_room } → cells ≡ length m.cells
cells_seen m cells keep process h first inside is = omega (arith, ap (λ (p : Placed). length p.cells) is, length-take cells (take keep h.registers), length-take keep h.registers, first, inside)

pub opened_is : (action : CodeAction) (keep : ℕ) (h new : Held) (lows : List CodeTemporary) (n : ℕ) → new ≡ record h { next = 0; registers = take keep h.registers ++ map (λ (t : CodeTemporary). t.lo) lows; counters = replicate n 0 }
    → lows ≡ action.temporaries → n ≡ length action.body → new ≡ opened action keep h
opened_is action keep h new lows n is e f =
    is ∙ ap (λ (ts : List CodeTemporary). record h { next = 0; registers = take keep h.registers ++ map (λ (t : CodeTemporary). t.lo) ts; counters = replicate n 0 }) e
    ∙ ap (λ (k : ℕ). record h { next = 0; registers = take keep h.registers ++ map (λ (t : CodeTemporary). t.lo) action.temporaries; counters = replicate k 0 }) f

-- what a run leaves of the machine, and what it did
pub record Played (code : Code) (n keep : ℕ) (received : List ℤ) (m m_after : Placed) (last : Held) (timers timers_after : Timing) (g g_after : Lcg) (box box_after : Boxed) (steps steps_after : ℕ) : Type 0 where
  pub inside : keep ≤ length last.registers
  pub machine : IsMachineOf code m_after
  pub runs : RunsAction code n received m m_after timers timers_after g g_after box box_after steps steps_after

pub played : (code shown : Code) (m : Placed) (n cells keep number : ℕ) (received : List ℤ) (h core last : Held) (process : CodeProcess) (action : CodeAction) (messages : List CodeMessage) (instrs : List Instr)
    (timers timers_after : Timing) (g g_after : Lcg) (box box_after : Boxed) (steps steps_after : ℕ)
    → IsVerified code → IsMachineOf code m → CanRun code m n received timers box → Each IsFitTimer timers.states → shown ≡ code → (view : m ≡ record { process = number; cells = take cells (take keep h.registers); inputs = drop cells (take keep h.registers); registers_room = h.registers_room; counters_room = h.counters_room })
    → cells ≤ keep → keep ≤ length h.registers → slice_get shown.processes number ≡ Some process → slice_get process.actions n ≡ Some action → core ≡ opened action keep h → messages ≡ shown.messages → instrs ≡ action.body
    → CountsFinish messages instrs received (scene core timers box g) (scene last timers_after box_after g_after) steps steps_after
    → Played code n keep received m (record { process = number; cells = take cells (take keep last.registers); inputs = drop cells (take keep last.registers); registers_room = last.registers_room; counters_room = last.counters_room }) last timers timers_after g g_after box box_after
    steps steps_after
played code shown m n cells keep number received h core last process action messages instrs timers timers_after g g_after box box_after steps steps_after verified machine can fit same view first inside there declared core_is messages_are instrs_are counts =
    let number_is : number ≡ m.process = sym (ap (λ (p : Placed). p.process) view) in
    let a = found code shown m number n process action same number_is there declared in
    let held = holds m cells keep number h inside view in
    let cells_is = cells_seen m cells keep number h first inside view in
    let all = messages_are ∙ ap (λ (s : Code). s.messages) same in
    let left = ap (λ (q : ℕ). record { process = q; cells = take cells (take keep last.registers); inputs = drop cells (take keep last.registers); registers_room = last.registers_room; counters_room = last.counters_room }) number_is in
    record {
      inside = inside_after code m n received timers box verified machine can fit a cells keep h core last timers_after box_after g g_after steps steps_after messages instrs held cells_is core_is all instrs_are counts;
      machine = machine_after code m n received timers box verified machine can fit a cells keep h core last timers_after box_after g g_after steps steps_after messages instrs held cells_is core_is all instrs_are counts _ left;
      runs = λ b. subst (λ (x : CodeAction). CountsRun code x received m _ timers timers_after g g_after box box_after steps steps_after) (same_action code m.process n a b)
          (counts_run code m n received timers box verified machine can fit a cells keep h core last timers_after box_after g g_after steps steps_after messages instrs held cells_is core_is all instrs_are counts _ left);
    }

pub begins_found : (code shown : Code) (m : Placed) (n cells keep number : ℕ) (received : List ℤ) (h core : Held) (process : CodeProcess) (action : CodeAction) (messages : List CodeMessage) (instrs : List Instr) (timers : Timing) (g : Lcg) (box : Boxed)
    → IsVerified code → IsMachineOf code m → CanRun code m n received timers box → Each IsFitTimer timers.states → shown ≡ code → (view : m ≡ record { process = number; cells = take cells (take keep h.registers); inputs = drop cells (take keep h.registers); registers_room = h.registers_room; counters_room = h.counters_room })
    → keep ≤ length h.registers → slice_get shown.processes number ≡ Some process → slice_get process.actions n ≡ Some action → core ≡ opened action keep h → messages ≡ shown.messages → instrs ≡ action.body
    → Begins messages instrs received (scene core timers box g)
begins_found code shown m n cells keep number received h core process action messages instrs timers g box verified machine can fit same view inside there declared core_is messages_are instrs_are =
    let number_is : number ≡ m.process = sym (ap (λ (p : Placed). p.process) view) in
    let a = found code shown m number n process action same number_is there declared in
    begins code m n received timers box verified machine can fit a keep h core g messages instrs (holds m cells keep number h inside view) core_is (messages_are ∙ ap (λ (s : Code). s.messages) same) instrs_are
