-- What each kind of instruction does is what it means.
use Rattle.std.proofs.Common.{◌≡◌, ◌+◌, ◌≤◌, ℕ, ℤ, pos, true, List, [], ◌∷◌, ◌++◌, map, take, drop, length, append-nil, refl, ap, sym, subst, ◌∙◌, slice_set, Option, Some, arith}
use Rattle.std.proofs.Math.Seq.{drop-append_seam}
use Rattle.std.proofs.lemmas.List.{drop-append-le, length-append, length-drop, map-append, take-append-le, take_all}
use Rattle.tap_base.specs.Interval.{from_to}
use Rattle.tap_base.specs.Lists.{Each}
use Rattle.tap_base.specs.Option.{◌>>=◌}
use Rattle.tap_base.specs.Ranges.{values_of}
use Rattle.tap_base.proofs.ListFacts.{each_more, each_weaker}
use Rattle.tap_exec.specs.declared.running.Outgoing.{Outgoing}
use Rattle.tap_exec.specs.declared.running.TimerState.{TimerState}
use Rattle.timer_core.specs.Timing.{Timing}
use Rattle.rand_pcg.specs.Lcg.{Lcg}
use Rattle.drawn_choices.specs.Draws.{AreRising}
use Rattle.register_code.specs.declared.code.CodeMessage.{CodeMessage}
use Rattle.register_code.specs.declared.instr.Instr.{Instr}
use Rattle.register_code.specs.declared.instr.Instr.TheVariants as instr
use Rattle.register_code.specs.Instructions.{Setting, chooses, does, ones, run_of, selects}
use Rattle.register_code.specs.Loops.{one_choice, one_send}
use Rattle.sound_code.proofs.Chosen.{run_there}
use Rattle.action_code.specs.Using.{one_value}
use Rattle.code_steps.specs.Holding.{Held, moment}
use Rattle.code_steps.specs.Moving.{Moves, is_plain}
use Rattle.drawn_steps.specs.declared.outbox.Sent.{Sent}
use Rattle.drawn_steps.specs.Acting.{Acts, Fills, scene}
use Rattle.drawn_steps.specs.Boxes.{AreThere, Boxed, outgoing, sends_of}
use Rattle.drawn_steps.specs.Drawing.{Selects, TakesNone, TakesOption}
use Rattle.drawn_steps.specs.Sending.{Sends}
use Rattle.drawn_steps.specs.Timing.{SetsTimer}
use Rattle.drawn_steps.proofs.Rising.{ones_rise, values_rise}

-- what follows from a value that is there
given : {A B : Type 0} (o : Option A) (x : A) (f : A → Option B) (y : Option B) → o ≡ Some x → f x ≡ y → (o >>= f) ≡ y
given o x f y e g = rw e g

-- an instruction that sends nothing
pub record Sendless (messages : List CodeMessage) (i : Instr) : Type 0 where
  pub send : one_send i ≡ 0
  pub value : one_value messages i ≡ 0

-- a box with the same sends, and no more choices than the instruction takes
keeps : (messages : List CodeMessage) (i : Instr) (box : Boxed) (chosen : List ℤ) → Sendless messages i → AreThere box → length chosen ≤ length box.chosen + one_choice i → Fills messages i box (record box { chosen = chosen })
keeps messages i box chosen none there few = record {
  there = there;
  sends = omega (arith, none.send);
  values = omega (arith, none.value);
  choices = few;
  sends_room = refl;
  values_room = refl;
  choices_room = refl;
}

-- ---- plain ones

sends_none : (messages : List CodeMessage) (i : Instr) → is_plain i ≡ true → Sendless messages i
sends_none messages (instr.Send message first count to) e = cc
sends_none messages _ e = record { send = refl; value = refl }

pub plain_acts : (messages : List CodeMessage) (received : List ℤ) (i : Instr) (before after : Held) (timers : Timing) (box : Boxed) (g : Lcg) → is_plain i ≡ true → Moves received i before after → AreThere box
    → Acts messages received i (scene before timers box g) (scene after timers box g)
plain_acts messages received i before after timers box g plain moves there =
    let e : Setting = record { messages = messages; received = received; instrs = [] } in
    record {
      taken = [];
      leads = λ e choices same heard. (moves e heard).leads timers.states (sends_of box) choices;
      noted = sym (append-nil box.chosen);
      drawn = refl;
      fills = keeps messages i box box.chosen (sends_none messages i plain) there (omega arith);
      time = refl;
      registers_room = (moves e refl).registers_room;
      counters_room = (moves e refl).counters_room;
    }

-- ---- choices

pub takes_acts : (messages : List CodeMessage) (received : List ℤ) (i : Instr) (options : List ℤ) (r : ℕ) (before after : Held) (timers : Timing) (box box_after : Boxed) (g g_after : Lcg)
    → TakesOption options r before after box box_after g g_after → AreRising options
    → ((e : Setting) (ts : List TimerState) (sends : List Outgoing) (choices : List ℤ) → does e i (moment before ts sends choices) ≡ chooses r options (moment before ts sends choices))
    → Sendless messages i → one_choice i ≡ 1 → AreThere box → Acts messages received i (scene before timers box g) (scene after timers box_after g_after)
takes_acts messages received i options r before after timers box box_after g g_after t rising asks none one there =
    subst (λ (b : Boxed). Acts messages received i (scene before timers box g) (scene after timers b g_after)) (sym t.noted) (record {
      taken = t.x ∷ [];
      leads = λ e choices same heard. asks e timers.states (sends_of box) (t.x ∷ choices) ∙ t.leads timers.states (sends_of box) choices;
      noted = refl;
      drawn = record { register = r; options = options; rising = rising; asks = asks; takes = t.drawn; moved = t.moved };
      fills = keeps messages i box (box.chosen ++ t.x ∷ []) none there (omega (arith, one, length-append box.chosen (t.x ∷ [])));
      time = refl;
      registers_room = ap (λ (h : Held). h.registers_room) t.held;
      counters_room = ap (λ (h : Held). h.counters_room) t.held;
    })

none_acts : (messages : List CodeMessage) (received : List ℤ) (i : Instr) (x : ℤ) (r : ℕ) (before after : Held) (timers : Timing) (box box_after : Boxed) (g g_after : Lcg)
    → TakesNone x r before after box box_after g g_after
    → ((e : Setting) (ts : List TimerState) (sends : List Outgoing) (choices : List ℤ) → does e i (moment before ts sends choices) ≡ Some (moment (record before { next = before.next + 1; registers = slice_set before.registers r x }) ts sends choices))
    → Sendless messages i → AreThere box → Acts messages received i (scene before timers box g) (scene after timers box_after g_after)
none_acts messages received i x r before after timers box box_after g g_after t leads none there =
    subst (λ (b : Boxed). Acts messages received i (scene before timers box g) (scene after timers b g_after)) (sym t.noted) (record {
      taken = [];
      leads = λ e choices same heard. leads e timers.states (sends_of box) choices ∙ ap (λ (h : Held). Some (moment h timers.states (sends_of box) choices)) (sym t.held);
      noted = sym (append-nil box.chosen);
      drawn = t.moved;
      fills = keeps messages i box box.chosen none there (omega arith);
      time = refl;
      registers_room = ap (λ (h : Held). h.registers_room) t.held;
      counters_room = ap (λ (h : Held). h.counters_room) t.held;
    })

pub selects_acts : (messages : List CodeMessage) (received : List ℤ) (r first count : ℕ) (ks : List ℕ) (before after : Held) (timers : Timing) (box box_after : Boxed) (g g_after : Lcg)
    → first + count ≤ length before.registers → ks ≡ ones 0 (take count (drop first before.registers)) → Selects r count ks before after box box_after g g_after → AreThere box
    → Acts messages received (instr.Select r first count) (scene before timers box g) (scene after timers box_after g_after)
selects_acts messages received r first count ks before after timers box box_after g g_after inside is selected there = by_many ks is selected where
  none : Sendless messages (instr.Select r first count)
  none = record { send = refl; value = refl }

  run : List ℤ
  run = take count (drop first before.registers)

  opens : (e : Setting) (js : List ℕ) → js ≡ ones 0 run → (ts : List TimerState) (sends : List Outgoing) (choices : List ℤ)
      → does e (instr.Select r first count) (moment before ts sends choices) ≡ selects r count js (moment before ts sends choices)
  opens e js same ts sends choices =
      let m = moment before ts sends choices in
      given (run_of first count before.registers) run (λ (xs : List ℤ). selects r count (ones 0 xs) m) (selects r count js m) (run_there first count before.registers inside).0 (ap (λ (ls : List ℕ). selects r count ls m) (sym same))

  by_many : (js : List ℕ) → js ≡ ones 0 run → Selects r count js before after box box_after g g_after → Acts messages received (instr.Select r first count) (scene before timers box g) (scene after timers box_after g_after)
  by_many [] same s = none_acts messages received (instr.Select r first count) (pos count) r before after timers box box_after g g_after s (λ e. opens e [] same) none there
  by_many (k ∷ []) same s = none_acts messages received (instr.Select r first count) (pos k) r before after timers box box_after g g_after s (λ e. opens e (k ∷ []) same) none there
  by_many (k ∷ l ∷ more) same s =
      takes_acts messages received (instr.Select r first count) (map pos (k ∷ l ∷ more)) r before after timers box box_after g g_after s (subst (λ (ls : List ℕ). AreRising (map pos ls)) (sym same) (ones_rise 0 run))
      (λ e. opens e (k ∷ l ∷ more) same) none refl there

-- ---- timers

pub sets_acts : (messages : List CodeMessage) (received : List ℤ) (i : Instr) (before after : Held) (timers timers_after : Timing) (box : Boxed) (g : Lcg) → SetsTimer i before after timers timers_after → Sendless messages i → AreThere box
    → Acts messages received i (scene before timers box g) (scene after timers_after box g)
sets_acts messages received i before after timers timers_after box g s none there = record {
  taken = [];
  leads = λ e choices same heard. s.leads e (sends_of box) choices;
  noted = sym (append-nil box.chosen);
  drawn = refl;
  fills = keeps messages i box box.chosen none there (omega arith);
  time = s.time;
  registers_room = s.registers_room;
  counters_room = s.counters_room;
}

-- ---- sends

-- what was sent before stays, whatever values are behind
same_outgoing : (values more : List ℤ) (s : Sent) → s.first + s.count ≤ length values → outgoing (values ++ more) s ≡ outgoing values s
same_outgoing values more s inside =
    let cut = drop-append-le s.first values more (omega (arith, inside)) in
    ap (λ (xs : List ℤ). record { to = s.to; message = s.message; values = xs })
    (ap (take s.count) cut ∙ take-append-le s.count (drop s.first values) more (omega (arith, inside, length-drop s.first values)))

all_outgoing : (values more : List ℤ) (sent : List Sent) → Each (λ (s : Sent). s.first + s.count ≤ length values) sent → map (outgoing (values ++ more)) sent ≡ map (outgoing values) sent
all_outgoing values more [] there = refl
all_outgoing values more (s ∷ sent) there = let first = same_outgoing values more s there.0 in let rest = all_outgoing values more sent there.1 in rw (first, rest) refl

abbrev sent_behind : ℕ → ℕ → Boxed → List ℤ → Boxed
sent_behind to message box values = record box { sent = box.sent ++ record { to = to; message = message; first = length box.values; count = length values } ∷ []; values = box.values ++ values }

sends_grow : (to message : ℕ) (box : Boxed) (values : List ℤ) → AreThere box → sends_of (sent_behind to message box values) ≡ sends_of box ++ record { to = to; message = message; values = values } ∷ []
sends_grow to message box values there =
    let s : Sent = record { to = to; message = message; first = length box.values; count = length values } in
    let last : take (length values) (drop (length box.values) (box.values ++ values)) ≡ values = ap (take (length values)) (drop-append_seam box.values values) ∙ take_all (length values) values (omega arith) in
    map-append (outgoing (box.values ++ values)) box.sent (s ∷ []) ∙ ap (λ (os : List Outgoing). os ++ outgoing (box.values ++ values) s ∷ []) (all_outgoing box.values values box.sent there)
    ∙ ap (λ (xs : List ℤ). sends_of box ++ record { to = to; message = message; values = xs } ∷ []) last

pub sends_acts : (messages : List CodeMessage) (received : List ℤ) (message first count to : ℕ) (before after : Held) (timers : Timing) (box box_after : Boxed) (g : Lcg) → Sends messages message first count to before after box box_after → AreThere box
    → Acts messages received (instr.Send message first count to) (scene before timers box g) (scene after timers box_after g)
sends_acts messages received message first count to before after timers box box_after g s there =
    subst (λ (b : Boxed). Acts messages received (instr.Send message first count to) (scene before timers box g) (scene after timers b g)) (sym s.noted) (record {
      taken = [];
      leads = λ e choices same heard. s.leads e timers.states (sends_of box) choices same ∙ ap (λ (os : List Outgoing). Some (moment after timers.states os choices)) (sym (sends_grow to message box s.values there));
      noted = sym (append-nil box.chosen);
      drawn = refl;
      fills = record {
        there = each_more (λ (o : Sent). o.first + o.count ≤ length (box.values ++ s.values)) box.sent _
            (each_weaker (λ (o : Sent). o.first + o.count ≤ length box.values) (λ (o : Sent). o.first + o.count ≤ length (box.values ++ s.values)) box.sent (λ o inside. omega (arith, inside, length-append box.values s.values)) there)
            (omega (arith, length-append box.values s.values));
        sends = length-append box.sent _;
        values = length-append box.values s.values ∙ ap (λ (n : ℕ). length box.values + n) s.counted;
        choices = omega arith;
        sends_room = refl;
        values_room = refl;
        choices_room = refl;
      };
      time = refl;
      registers_room = ap (λ (h : Held). h.registers_room) s.held;
      counters_room = ap (λ (h : Held). h.counters_room) s.held;
    })

-- ---- as the calls leave it

pub choose_acts : (messages : List CodeMessage) (received : List ℤ) (r : ℕ) (lo hi a b : ℤ) (before after : Held) (timers : Timing) (box box_after : Boxed) (g g_after : Lcg) → a ≡ lo → b ≡ hi
    → TakesOption (values_of (from_to a b)) r before after box box_after g g_after → AreThere box → Acts messages received (instr.Choose r lo hi) (scene before timers box g) (scene after timers box_after g_after)
choose_acts messages received r lo hi a b before after timers box box_after g g_after low high t there =
    let told = subst (λ (z : ℤ). TakesOption (values_of (from_to lo z)) r before after box box_after g g_after) high (subst (λ (z : ℤ). TakesOption (values_of (from_to z b)) r before after box box_after g g_after) low t) in
    takes_acts messages received (instr.Choose r lo hi) (values_of (from_to lo hi)) r before after timers box box_after g g_after told (values_rise (from_to lo hi)) (λ e ts sends choices. refl) (record { send = refl; value = refl }) refl there

pub start_acts : (messages : List CodeMessage) (received : List ℤ) (t a : ℕ) (before after : Held) (timers timers_after : Timing) (box : Boxed) (g : Lcg) → SetsTimer (instr.Start t a) before after timers timers_after → AreThere box
    → Acts messages received (instr.Start t a) (scene before timers box g) (scene after timers_after box g)
start_acts messages received t a before after timers timers_after box g s there = sets_acts messages received (instr.Start t a) before after timers timers_after box g s (record { send = refl; value = refl }) there

pub stop_acts : (messages : List CodeMessage) (received : List ℤ) (t : ℕ) (before after : Held) (timers timers_after : Timing) (box : Boxed) (g : Lcg) → SetsTimer (instr.Stop t) before after timers timers_after → AreThere box
    → Acts messages received (instr.Stop t) (scene before timers box g) (scene after timers_after box g)
stop_acts messages received t before after timers timers_after box g s there = sets_acts messages received (instr.Stop t) before after timers timers_after box g s (record { send = refl; value = refl }) there
