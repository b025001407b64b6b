-- What a body that runs has come to, and that each instruction leads it on.
use Rattle.std.proofs.Common.{◌≡◌, ◌+◌, ◌*◌, ◌<◌, ◌≤◌, ℕ, zero, suc, ℤ, true, List, [], ◌∷◌, ◌++◌, map, drop, length, append-nil, append_assoc, refl, ap, sym, subst, ◌∙◌, slice_get, Option, Some, arith}
use Rattle.std.specs.List.{list_all}
use Rattle.std.proofs.Math.Seq.{drop-append_seam}
use Rattle.std.proofs.lemmas.Bool.{eq-eqb, eqb-true, leb-true}
use Rattle.std.proofs.lemmas.List.{length-append, length-map, take-append-le, take_all}
use Rattle.std.proofs.lemmas.Option.{option_and_then_some, slice_get_within}
use Rattle.rand_pcg.specs.Lcg.{Lcg}
use Rattle.rand_pcg.specs.Pcg.{multiplier_64}
use Rattle.rand_pcg.proofs.LcgLemmas.{advance_zero}
use Rattle.drawn_choices.specs.Draws.{AreDrawn, after_words, option_drawn, word_from}
use Rattle.drawn_choices.proofs.MoreDrawn.{none_drawn}
use Rattle.drawn_choices.proofs.Words.{after_both, word_behind}
use Rattle.tap_base.specs.Interval.{from_to}
use Rattle.tap_base.specs.Lists.{Each}
use Rattle.tap_base.specs.Option.{◌>>=◌}
use Rattle.register_code.specs.declared.bad.Part.TheVariants as part
use Rattle.register_code.specs.declared.code.CodeInput.{CodeInput}
use Rattle.register_code.specs.declared.code.CodeMessage.{CodeMessage}
use Rattle.register_code.specs.declared.code.CodeTemporary.{CodeTemporary}
use Rattle.register_code.specs.declared.instr.Instr.{Instr}
use Rattle.register_code.specs.declared.instr.Instr.TheVariants as instr
use Rattle.register_code.specs.Declarations.{at_most, field_fits}
use Rattle.register_code.specs.Instructions.{Moment, Setting, chooses, does}
use Rattle.register_code.specs.Jumping.{AreWhole}
use Rattle.register_code.specs.Loops.{cost, one_choice, one_send, one_step, sends, total}
use Rattle.register_code.specs.Registers.{cell_ranges, input_ranges, temporary_range}
use Rattle.register_code.specs.Running.{EndsWithin, Leads, after, is_ended, left_by, run, step}
use Rattle.register_code.specs.Sites.{Site}
use Rattle.register_code.specs.Verified.{site_of}
use Rattle.register_code.proofs.Kept.{are_whole, code_keeps}
use Rattle.sound_code.specs.Fitting.{FitsSite}
use Rattle.sound_code.specs.Promises.{GoesOn, opening_of, setting_of}
use Rattle.sound_code.proofs.Ends.{at_most_total, parts_end}
use Rattle.sound_code.proofs.Falls.{falls, still_counts}
use Rattle.sound_code.proofs.Joined.{leads_on, runs_are_steps}
use Rattle.sound_code.proofs.Moves.{goes}
use Rattle.sound_code.proofs.Named.{names_of}
use Rattle.sound_code.proofs.Reached.{Sound, left_fits, opening_fits, sound, steps_fit}
use Rattle.drawn_code.specs.Ending.{CanEnd}
use Rattle.drawn_code.proofs.Ending.{code_can_end}
use Rattle.code_draws.specs.Leading.{Chooses, HasCome, leads_code}
use Rattle.code_draws.proofs.Drawing.{choices_are_draws}
use Rattle.action_code.specs.Using.{one_value}
use Rattle.drawn_steps.specs.declared.outbox.Sent.{Sent}
use Rattle.drawn_steps.specs.Acting.{Acts, AreDrawnBy, CanAct, Scene, moment_of}
use Rattle.drawn_steps.specs.Boxes.{AreThere, HasRoomFor, IsEmpty, sends_of}
use Rattle.drawn_steps.proofs.CanAct.{can_act}
use Rattle.action_code.proofs.Used.{few_values}
use Rattle.drawn_steps.proofs.Roomy.{are_bodies}
use Rattle.action_machine.specs.Runs.{Begins, Counts, Finishes, IsTask, Task, cells_of, kept_of, left_in}
use Rattle.action_machine.proofs.Inputs.{inputs_in, inputs_stay}

-- what follows from a value that is there
given : {A B : Type 0} (o : Option A) (x : A) (f : A → Option B) (y : Option B) → o ≡ Some x → f x ≡ y → (o >>= f) ≡ y
given o x f y e g = rw e g

-- an instruction sends no values, or those of one message
values_by_sends : (messages : List CodeMessage) (i : Instr) → list_all (λ (m : CodeMessage). at_most 256 m.fields) messages ≡ true → one_value messages i ≤ 256 * one_send i
values_by_sends messages (instr.Send message first count to) few = omega (arith, few_values messages (instr.Send message first count to) few)
values_by_sends messages _ few = omega arith

-- the room that is left is enough for what can still run
pub record Rooms (messages : List CodeMessage) (body : List Instr) (s : Scene) : Type 0 where
  pub sends : length s.box.sent + still_counts one_send body s.held.counters s.held.next ≤ s.box.sends_room
  pub values : length s.box.values + still_counts (one_value messages) body s.held.counters s.held.next ≤ s.box.values_room
  pub choices : length s.box.chosen + still_counts one_choice body s.held.counters s.held.next ≤ s.box.choices_room
  pub few : length s.box.sent + still_counts one_send body s.held.counters s.held.next ≤ 64
  pub small : length s.box.values ≤ 256 * length s.box.sent

-- what stays as it was
pub record Stays (first s : Scene) : Type 0 where
  pub time : s.timers.time ≡ first.timers.time
  pub registers_room : s.held.registers_room ≡ first.held.registers_room
  pub counters_room : s.held.counters_room ≡ first.held.counters_room
  pub sends_room : s.box.sends_room ≡ first.box.sends_room
  pub values_room : s.box.values_room ≡ first.box.values_room
  pub choices_room : s.box.choices_room ≡ first.box.choices_room

-- So many instructions have led the body to a scene, with the choices that the generator drew.
pub record Came (t : Task) (first : Scene) (ran : ℕ) (s : Scene) : Type 0 where
  pub come : HasCome t.code t.number t.process t.action t.received t.inputs t.before s.box.chosen ran (moment_of s [])
  pub drawn : AreDrawn (leads_code t.code.messages t.action t.inputs t.received t.before) (word_from first.generator) 0 s.box.chosen
  pub moved : s.generator ≡ after_words (length s.box.chosen) first.generator
  pub there : AreThere s.box
  pub inputs : inputs_in (cells_of t.process) (kept_of t.process) (moment_of s []) ≡ t.inputs
  pub rooms : Rooms t.code.messages t.action.body s
  pub stays : Stays first s

module _ (t : Task) (k : IsTask t) where
  abbrev e : Setting
  e = setting_of t.code t.action part.Body t.received

  abbrev site : Site
  site = site_of t.code t.number t.process t.action part.Body

  abbrev start : List ℤ → Moment
  start choices = opening_of t.action part.Body t.inputs (record t.before { choices = choices })

  whole : Sound site t.received
  whole = sound t.code t.number t.process t.action part.Body t.received k.verified k.heard

  wholes : AreWhole t.action.body
  wholes = are_whole site whole.keeps

  -- ---- the beginning

  begins_in : FitsSite site (start [])
  begins_in =
      let f = opening_fits t.code t.number t.process t.action part.Body t.inputs t.before ((code_keeps t.code k.verified.verified).actions t.number t.process k.verified.there k.verified.number t.action k.verified.declared).temporaries k.inputs_fit k.fits in
      record { registers = f.registers; counters = f.counters; timers = f.timers; delays = f.delays; sends = f.sends; inside = f.inside }

  inputs_begin : inputs_in (cells_of t.process) (kept_of t.process) (start []) ≡ t.inputs
  inputs_begin =
      let lows = map (λ (d : CodeTemporary). d.lo) t.action.temporaries in
      let cells = t.before.cells in
      let cells_counted = k.fits.running.cells.counted in
      let many : kept_of t.process ≡ length (cells ++ t.inputs) = omega (arith, length-append cells t.inputs, cells_counted, k.inputs_fit.counted, inputs_counted) in
      ap (drop (cells_of t.process)) (take-append-le (kept_of t.process) (cells ++ t.inputs) lows (omega (arith, many)) ∙ take_all (kept_of t.process) (cells ++ t.inputs) (omega (arith, many)))
      ∙ ap (λ (n : ℕ). drop n (cells ++ t.inputs)) (sym cells_counted) ∙ drop-append_seam cells t.inputs where
        inputs_counted : length (input_ranges t.process) ≡ length t.process.inputs
        inputs_counted = length-map t.process.inputs _

  pub came_first : (s : Scene) → moment_of s [] ≡ start [] → IsEmpty s.box → HasRoomFor t.code.messages t.action.body s.box → Came t s 0 s
  came_first s opened empty room =
      let none = empty.chosen in
      let begins : s.held.next ≡ 0 = ap (λ (m : Moment). m.next) opened in
      let no_sends = ap length empty.sent in
      let no_values = ap length empty.values in
      let no_choices = ap length empty.chosen in
      let still = λ (counts : Instr → ℕ). at_most_at counts s.held.counters s.held.next begins in
      record {
        come = record {
          verified = k.verified;
          heard = k.heard;
          leads = λ more. ap (λ (cs : List ℤ). Some (start (cs ++ more))) none ∙ ap (λ (m : Moment). Some (record m { choices = more })) (sym opened);
          fits = subst (FitsSite site) (sym opened) begins_in;
        };
        drawn = subst (λ (cs : List ℤ). AreDrawn (leads_code t.code.messages t.action t.inputs t.received t.before) (word_from s.generator) 0 cs) (sym none) (none_drawn (leads_code t.code.messages t.action t.inputs t.received t.before) (word_from s.generator) 0);
        moved = sym (advance_zero 64 multiplier_64 s.generator) ∙ ap (λ (cs : List ℤ). after_words (length cs) s.generator) (sym none);
        there = subst (λ (os : List Sent). Each (λ (o : Sent). o.first + o.count ≤ length s.box.values) os) (sym empty.sent) tt;
        inputs = ap (inputs_in (cells_of t.process) (kept_of t.process)) opened ∙ inputs_begin;
        rooms = record {
          sends = omega (arith, no_sends, still one_send, room.sends);
          values = omega (arith, no_values, still (one_value t.code.messages), room.values);
          choices = omega (arith, no_choices, still one_choice, room.choices);
          few = omega (arith, no_sends, still one_send, leb-true (sends t.action.body) 64 whole.keeps.few);
          small = omega (arith, no_values);
        };
        stays = record { time = refl; registers_room = refl; counters_room = refl; sends_room = refl; values_room = refl; choices_room = refl };
      } where
        at_most_at : (counts : Instr → ℕ) (counters : List ℕ) (p : ℕ) → p ≡ 0 → still_counts counts t.action.body counters p ≤ total counts t.action.body
        at_most_at counts counters p zero_is = subst (λ (q : ℕ). still_counts counts t.action.body counters q ≤ total counts t.action.body) (sym zero_is) (at_most_total counts t.action.body counters)

  -- ---- one instruction

  module _ (first s : Scene) (ran : ℕ) (i : Instr) (c : Came t first ran s) (at : slice_get t.action.body s.held.next ≡ Some i) where
    inside : s.held.next < length t.action.body
    inside = slice_get_within t.action.body s.held.next i at

    -- an instruction that leads on lowers what the body can still do
    falls_by : (counts : Instr → ℕ) (choices : List ℤ) (u : Moment) → does e i (moment_of s choices) ≡ Some u → still_counts counts t.action.body u.counters u.next + counts i ≤ still_counts counts t.action.body s.held.counters s.held.next
    falls_by counts choices u done = (falls counts t.action.body wholes i (moment_of s choices) u at (goes e i (moment_of s choices) u done)).less

    -- with some choices the instruction leads on
    leads_somewhere : (choices : List ℤ) × ((u : Moment) × (does e i (moment_of s choices) ≡ Some u))
    leads_somewhere = by_end (code_can_end t.code t.number t.process t.action part.Body t.received (moment_of s []) k.verified k.heard c.come.fits) where
      by_ran : (n : ℕ) (choices : List ℤ) (end : Moment) → Leads e (moment_of s choices) n end → is_ended e end ≡ true → (u : Moment) × (does e i (moment_of s choices) ≡ Some u)
      by_ran zero choices end leads ended = let same : moment_of s choices ≡ end = cc in absurd (omega (arith, inside, eqb-true end.next (length t.action.body) ended, ap (λ (m : Moment). m.next) same))
      by_ran (suc n) choices end leads ended =
          option_and_then_some (after e n) (step e (moment_of s choices)) end leads
          (λ u f g. (u, sym (given (slice_get t.action.body s.held.next) i (λ j. does e j (moment_of s choices)) (does e i (moment_of s choices)) at refl) ∙ f))

      by_end : CanEnd e (moment_of s []) → (choices : List ℤ) × ((u : Moment) × (does e i (moment_of s choices) ≡ Some u))
      by_end c = (c.choices, by_ran c.ran c.choices c.end c.leads c.ended)

    counts_here : (counts : Instr → ℕ) → counts i ≤ still_counts counts t.action.body s.held.counters s.held.next
    counts_here counts = let l = leads_somewhere in omega (arith, falls_by counts l.0 l.1.0 l.1.1)

    pub came_can : CanAct t.code.messages t.received i s.held s.timers s.box
    came_can =
        let few = few_values t.code.messages i (are_bodies t.code t.number t.process k.verified.verified k.verified.there).few in
        can_act site t.received whole s c.come.fits i at (record {
          sends = omega (arith, c.rooms.sends, counts_here one_send);
          values = omega (arith, c.rooms.values, counts_here (one_value t.code.messages));
          small = omega (arith, c.rooms.few, c.rooms.small, few);
          choices = omega (arith, c.rooms.choices, counts_here one_choice);
        })

    module _ (u : Scene) (a : Acts t.code.messages t.received i s u) where
      step_is : (choices : List ℤ) → step e (moment_of s (a.taken ++ choices)) ≡ Some (moment_of u choices)
      step_is choices = given (slice_get t.action.body s.held.next) i (λ j. does e j (moment_of s (a.taken ++ choices))) (Some (moment_of u choices)) at (a.leads e choices refl refl)

      done : does e i (moment_of s (a.taken ++ [])) ≡ Some (moment_of u [])
      done = a.leads e [] refl refl

      leads_all : (more : List ℤ) → Leads e (start (u.box.chosen ++ more)) (ran + 1) (moment_of u more)
      leads_all more =
          let here : Leads e (start (s.box.chosen ++ (a.taken ++ more))) ran (moment_of s (a.taken ++ more)) = c.come.leads (a.taken ++ more) in
          let one : Leads e (moment_of s (a.taken ++ more)) 1 (moment_of u more) = given (step e (moment_of s (a.taken ++ more))) (moment_of u more) (after e 0) (Some (moment_of u more)) (step_is more) refl in
          let all : u.box.chosen ++ more ≡ s.box.chosen ++ (a.taken ++ more) = ap (λ (cs : List ℤ). cs ++ more) a.noted ∙ append_assoc s.box.chosen a.taken more in
          subst (λ (cs : List ℤ). Leads e (start cs) (ran + 1) (moment_of u more)) (sym all) (leads_on e ran 1 (start (s.box.chosen ++ (a.taken ++ more))) (moment_of s (a.taken ++ more)) (moment_of u more) here one)

      fits_on : FitsSite site (moment_of u [])
      fits_on =
          let f = c.come.fits in
          let from : FitsSite site (moment_of s (a.taken ++ [])) = record { registers = f.registers; counters = f.counters; timers = f.timers; delays = f.delays; sends = f.sends; inside = f.inside } in
          subst (GoesOn site e (moment_of s (a.taken ++ []))) (step_is []) (steps_fit t.code t.number t.process t.action part.Body t.received (moment_of s (a.taken ++ [])) k.verified k.heard from).0

      -- the choices so far are drawn, and so many words are used
      abbrev Drew : List ℤ → Type 0
      Drew chosen = AreDrawn (leads_code t.code.messages t.action t.inputs t.received t.before) (word_from first.generator) 0 chosen × (u.generator ≡ after_words (length chosen) first.generator)

      drew : (taken : List ℤ) → AreDrawnBy i s u taken → Drew (s.box.chosen ++ taken)
      drew [] same = subst Drew (sym (append-nil s.box.chosen)) (c.drawn, same ∙ c.moved)
      drew (x ∷ []) d =
          let word : word_from s.generator 0 ≡ word_from first.generator (length s.box.chosen) =
          ap (λ (g : Lcg). word_from g 0) c.moved ∙ word_behind (length s.box.chosen) 0 first.generator ∙ ap (word_from first.generator) (omega arith) in
          let asks : Chooses t.code t.action t.received (moment_of s []) d.register d.options = record {
            rising = d.rising;
            inside = inside;
            asks = λ more. given (slice_get t.action.body s.held.next) i (λ j. does e j (moment_of s more)) (chooses d.register d.options (moment_of s more)) at (d.asks e s.timers.states (sends_of s.box) more);
          } in
          let takes : option_drawn d.options (word_from first.generator (length s.box.chosen)) ≡ Some x = ap (option_drawn d.options) (sym word) ∙ d.takes in (
            choices_are_draws t.code t.number t.process t.action t.received t.inputs t.before s.box.chosen ran (moment_of s []) d.register d.options (word_from first.generator) x c.come asks c.drawn takes,
            d.moved ∙ ap (after_words 1) c.moved ∙ after_both (length s.box.chosen) 1 first.generator ∙ ap (λ (n : ℕ). after_words n first.generator) (sym (length-append s.box.chosen (x ∷ []))),
          )
      drew (x ∷ y ∷ more) d = absurd d

      pub came_on : Came t first (ran + 1) u
      came_on =
          let drawn = subst Drew (sym a.noted) (drew a.taken a.drawn) in
          let less = λ (counts : Instr → ℕ). falls_by counts (a.taken ++ []) (moment_of u []) done in
          let f = a.fills in
          record {
            come = record { verified = k.verified; heard = k.heard; leads = leads_all; fits = fits_on };
            drawn = drawn.0;
            moved = drawn.1;
            there = f.there;
            inputs = inputs_stay site e i (moment_of s (a.taken ++ [])) (moment_of u []) refl (names_of site i (whole.keeps.each s.held.next i at).names) done ∙ c.inputs;
            rooms = record {
              sends = omega (arith, less one_send, c.rooms.sends, f.sends, f.sends_room);
              values = omega (arith, less (one_value t.code.messages), c.rooms.values, f.values, f.values_room);
              choices = omega (arith, less one_choice, c.rooms.choices, f.choices, f.choices_room);
              few = omega (arith, less one_send, c.rooms.few, f.sends);
              small = values_few i f.sends f.values;
            };
            stays = record {
              time = a.time ∙ c.stays.time;
              registers_room = a.registers_room ∙ c.stays.registers_room;
              counters_room = a.counters_room ∙ c.stays.counters_room;
              sends_room = f.sends_room ∙ c.stays.sends_room;
              values_room = f.values_room ∙ c.stays.values_room;
              choices_room = f.choices_room ∙ c.stays.choices_room;
            };
          } where
            values_few : (j : Instr) → length u.box.sent ≡ length s.box.sent + one_send j → length u.box.values ≡ length s.box.values + one_value t.code.messages j → length u.box.values ≤ 256 * length u.box.sent
            values_few j more many =
                let most = values_by_sends t.code.messages j (are_bodies t.code t.number t.process k.verified.verified k.verified.there).few in
                omega (arith, more, many, most, c.rooms.small)

      pub came_less : still_counts one_step t.action.body u.held.counters u.held.next < still_counts one_step t.action.body s.held.counters s.held.next
      came_less = omega (arith, falls_by one_step (a.taken ++ []) (moment_of u []) done)

  -- ---- the end

  pub came_last : (first s : Scene) (ran : ℕ) → Came t first ran s → s.held.next ≡ length t.action.body → Finishes t first s ran
  came_last first s ran c ended = record {
    runs = given (run e (cost t.action.body) (start s.box.chosen)) (moment_of s [], ran) (λ r. Some (left_by (length t.before.cells) r.0, r.1)) (Some (left_in t.process s, ran)) there
        (ap (λ (n : ℕ). Some (left_by n (moment_of s []), ran)) k.fits.running.cells.counted);
    few = (subst (EndsWithin e (cost t.action.body) (start s.box.chosen)) there (parts_end t.code t.number t.process t.action part.Body t.received t.inputs (record t.before { choices = s.box.chosen }) k.verified)).few;
    drawn = c.drawn;
    moved = c.moved;
    fits = left_fits t.code t.number t.process t.action part.Body (cells_of t.process) (moment_of s []) refl c.come.fits;
    inputs = c.inputs;
    inside = omega (
      arith,
      c.come.fits.registers.counted,
      length-append (cell_ranges t.process ++ input_ranges t.process) (map temporary_range t.action.temporaries),
      length-append (cell_ranges t.process) (input_ranges t.process),
      length-map t.process.inputs (λ (i : CodeInput). from_to i.lo i.hi),
    );
    time = c.stays.time;
    registers_room = c.stays.registers_room;
    counters_room = c.stays.counters_room;
    sends_room = c.stays.sends_room;
    values_room = c.stays.values_room;
    choices_room = c.stays.choices_room;
  } where
    there : run e (cost t.action.body) (start s.box.chosen) ≡ Some (moment_of s [], ran)
    there =
        let leads : Leads e (start s.box.chosen) ran (moment_of s []) = subst (λ (cs : List ℤ). Leads e (start cs) ran (moment_of s [])) (append-nil s.box.chosen) (c.come.leads []) in
        (runs_are_steps t.code t.number t.process t.action part.Body t.received t.inputs (record t.before { choices = s.box.chosen }) k.verified).0 (moment_of s []) ran leads (eq-eqb s.held.next (length t.action.body) ended)

-- ---- as the loop keeps it

-- what a body that began has come to, and what was counted
pub record CameSome (t : Task) (first s : Scene) (steps steps_after : ℕ) : Type 0 where
  pub ran : ℕ
  pub came : Came t first ran s
  pub counted : steps_after ≡ steps + ran

module _ (messages : List CodeMessage) (instrs : List Instr) (received : List ℤ) (first : Scene) (b : Begins messages instrs received first) where
  pub some_first : (steps : ℕ) → CameSome b.task first first steps steps
  some_first steps = record { ran = 0; came = came_first b.task b.is_task first b.opened b.empty b.room; counted = omega arith }

  module _ (s : Scene) (steps now : ℕ) (i : Instr) (c : CameSome b.task first s steps now) (at : slice_get instrs s.held.next ≡ Some i) where
    in_body : slice_get b.task.action.body s.held.next ≡ Some i
    in_body = subst (λ (is : List Instr). slice_get is s.held.next ≡ Some i) b.instrs_are at

    pub some_there : AreThere s.box
    some_there = c.came.there

    pub some_can : CanAct messages received i s.held s.timers s.box
    some_can =
        subst (λ (ms : List CodeMessage). CanAct ms received i s.held s.timers s.box) (sym b.messages_are)
        (subst (λ (xs : List ℤ). CanAct b.task.code.messages xs i s.held s.timers s.box) (sym b.received_are) (came_can b.task b.is_task first s c.ran i c.came in_body))

    pub some_fields : list_all (λ (m : CodeMessage). list_all field_fits m.fields) messages ≡ true
    some_fields = subst (λ (ms : List CodeMessage). list_all (λ (m : CodeMessage). list_all field_fits m.fields) ms ≡ true) (sym b.messages_are) (code_keeps b.task.code b.is_task.verified.verified).fields

    module _ (u : Scene) (later : ℕ) (a : Acts messages received i s u) (ticked : later ≡ now + 1) where
      acts : Acts b.task.code.messages b.task.received i s u
      acts = subst (λ (xs : List ℤ). Acts b.task.code.messages xs i s u) b.received_are (subst (λ (ms : List CodeMessage). Acts ms received i s u) b.messages_are a)

      pub some_on : CameSome b.task first u steps later
      some_on = record { ran = c.ran + 1; came = came_on b.task b.is_task first s c.ran i c.came in_body u acts; counted = omega (arith, ticked, c.counted) }

      pub some_less : still_counts one_step instrs u.held.counters u.held.next < still_counts one_step instrs s.held.counters s.held.next
      some_less = subst (λ (is : List Instr). still_counts one_step is u.held.counters u.held.next < still_counts one_step is s.held.counters s.held.next) (sym b.instrs_are) (came_less b.task b.is_task first s c.ran i c.came in_body u acts)

  -- the number of the next instruction, when there is none
  pub some_inside : (s : Scene) (steps now : ℕ) → CameSome b.task first s steps now → s.held.next ≤ length instrs
  some_inside s steps now c = subst (λ (is : List Instr). s.held.next ≤ length is) (sym b.instrs_are) c.came.come.fits.inside

  pub some_last : (s : Scene) (steps now : ℕ) → CameSome b.task first s steps now → length instrs ≤ s.held.next → Counts b.task first s steps now
  some_last s steps now c past =
      let end : s.held.next ≡ length b.task.action.body = subst (λ (is : List Instr). s.held.next ≡ length is) b.instrs_are (omega (arith, past, some_inside s steps now c)) in
      record { ran = c.ran; finishes = came_last b.task b.is_task first s c.ran c.came end; counted = c.counted }

-- ---- as the function finds it

-- the instruction that is next
pub here : (instrs : List Instr) (next read : ℕ) (i : Instr) → read ≡ next → slice_get instrs read ≡ Some i → slice_get instrs next ≡ Some i
here instrs next read i e is = subst (λ (k : ℕ). slice_get instrs k ≡ Some i) e is

-- none is next
pub past : (instrs : List Instr) (next read : ℕ) → read ≡ next → length instrs ≤ read → length instrs ≤ next
past instrs next read e l = omega (arith, e, l)
