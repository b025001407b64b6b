-- What any instruction needs of what it changes, and what it does to it.
use Rattle.std.specs.Prelude.{◌≡◌, ℕ, ◌+◌, ◌<◌, ◌≤◌, ◌≤ℤ◌, ℤ, List, [], ◌∷◌, ◌++◌, length, slice_get, Some}
use Rattle.tap_base.specs.Interval.{IsIn, delay_range}
use Rattle.tap_exec.specs.declared.running.Outgoing.{Outgoing}
use Rattle.tap_exec.specs.declared.running.TimerState.{TimerState}
use Rattle.timer_core.specs.Timing.{Timing}
use Rattle.rand_pcg.specs.Lcg.{Lcg}
use Rattle.drawn_choices.specs.Draws.{AreRising, after_words, option_drawn, word_from}
use Rattle.register_code.specs.declared.code.CodeMessage.{CodeMessage}
use Rattle.register_code.specs.declared.instr.Instr.{Instr}
use Rattle.register_code.specs.declared.instr.Instr.TheVariants as instr
use Rattle.register_code.specs.Instructions.{Moment, Setting, chooses, does}
use Rattle.register_code.specs.Loops.{one_choice, one_send}
use Rattle.action_code.specs.Using.{fields_in, one_value}
use Rattle.code_steps.specs.Holding.{Held, moment}
use Rattle.code_steps.specs.Moving.{CanMove}
use Rattle.drawn_steps.specs.Boxes.{AreThere, Boxed, sends_of}
use Rattle.drawn_steps.specs.Sending.{CanSend, HasSendRoom}

-- all that instructions change
pub record Scene : Type 0 where
  pub held : Held
  pub timers : Timing
  pub box : Boxed
  pub generator : Lcg

abbrev pub scene : Held → Timing → Boxed → Lcg → Scene
scene held timers box generator = record { held = held; timers = timers; box = box; generator = generator }

-- the moment of the run, with these choices left
abbrev pub moment_of : Scene → List ℤ → Moment
moment_of s choices = moment s.held s.timers.states (sends_of s.box) choices

-- ---- what an instruction needs

-- What it names is there, and there is room for what it sends and chooses.
abbrev pub CanAct : List CodeMessage → List ℤ → Instr → Held → Timing → Boxed → Type 0
CanAct messages received (instr.Choose r lo hi) h timers box = (r < length h.registers) × (lo ≤ℤ hi) × (length box.chosen < box.choices_room)
CanAct messages received (instr.Select r first count) h timers box = (r < length h.registers) × (first + count ≤ length h.registers) × (length box.chosen < box.choices_room)
CanAct messages received (instr.Send message first count to) h timers box = CanSend messages message first count h × HasSendRoom (fields_in (slice_get messages message)) box
CanAct messages received (instr.Start timer a) h timers box = (a < length h.registers) × ((x : ℤ) → slice_get h.registers a ≡ Some x → IsIn x delay_range) × (timer < length timers.states)
CanAct messages received (instr.Stop timer) h timers box = timer < length timers.states
CanAct messages received i h timers box = CanMove received i h

-- ---- what it does

-- The instruction asks for one of these options, in rising order, and the next word takes x of them.
pub record DrawsOne (i : Instr) (s t : Scene) (x : ℤ) : Type 0 where
  pub register : ℕ
  pub options : List ℤ
  pub rising : AreRising options
  pub asks : (e : Setting) (timers : List TimerState) (sends : List Outgoing) (choices : List ℤ) → does e i (moment s.held timers sends choices) ≡ chooses register options (moment s.held timers sends choices)
  pub takes : option_drawn options (word_from s.generator 0) ≡ Some x
  pub moved : t.generator ≡ after_words 1 s.generator

-- The choice that is taken, if one is, is drawn; of no choice no word is used.
abbrev pub AreDrawnBy : Instr → Scene → Scene → List ℤ → Type 0
AreDrawnBy i s t [] = t.generator ≡ s.generator
AreDrawnBy i s t (x ∷ []) = DrawsOne i s t x
AreDrawnBy i s t (x ∷ y ∷ more) = ⊥

-- The box has no more than what the instruction sends and chooses at most, in the same room.
pub record Fills (messages : List CodeMessage) (i : Instr) (box box_after : Boxed) : Type 0 where
  pub there : AreThere box_after
  pub sends : length box_after.sent ≡ length box.sent + one_send i
  pub values : length box_after.values ≡ length box.values + one_value messages i
  pub choices : length box_after.chosen ≤ length box.chosen + one_choice i
  pub sends_room : box_after.sends_room ≡ box.sends_room
  pub values_room : box_after.values_room ≡ box.values_room
  pub choices_room : box_after.choices_room ≡ box.choices_room

-- The instruction leads on, with the choice that it draws.
pub record Acts (messages : List CodeMessage) (received : List ℤ) (i : Instr) (s t : Scene) : Type 0 where
  pub taken : List ℤ
  pub leads : (e : Setting) (choices : List ℤ) → e.messages ≡ messages → e.received ≡ received → does e i (moment_of s (taken ++ choices)) ≡ Some (moment_of t choices)
  pub noted : t.box.chosen ≡ s.box.chosen ++ taken
  pub drawn : AreDrawnBy i s t taken
  pub fills : Fills messages i s.box t.box
  pub time : t.timers.time ≡ s.timers.time
  pub registers_room : t.held.registers_room ≡ s.held.registers_room
  pub counters_room : t.held.counters_room ≡ s.held.counters_room
