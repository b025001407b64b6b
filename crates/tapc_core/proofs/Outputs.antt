-- From what was served to what is written.
use Rattle.std.proofs.Common.{◌≡◌, ◌+◌, ◌<◌, ◌≤◌, ◌⊎◌, inl, inr, ℕ, List, [], ◌∷◌, ◌++◌, length, Option, Some, None, IfSome, refl, ap, sym, subst, ◌∙◌, append_assoc, append-nil, arith}
use Rattle.std.specs.Option.{option_map}
use Rattle.std.specs.Io.KnownBytes.{Appends}
use Rattle.tap_base.specs.declared.system.Inputs.{Inputs}
use Rattle.tap_base.specs.declared.system.System.{System}
use Rattle.abstract_run.specs.CellCount.{cells_in}
use Rattle.abstract_run.specs.Answers.{Answers}
use Rattle.abstract_run.specs.Fits.{Fits}
use Rattle.abstract_run.specs.Opening.{opening_state}
use Rattle.tap_exec.specs.Semantics.{Semantics, semantics_of}
use Rattle.abstract_run.specs.declared.label.Event.{Event}
use Rattle.abstract_run.specs.declared.label.Label.{Label}
use Rattle.abstract_run.specs.declared.state.State.{State}
use Rattle.run_text.specs.ScheduleText.{AreListed, BeginsBadly, BeginsSchedule, GoesOnAfter, MeetsEvent, SpellsSchedule, events_text, most_events}
use Rattle.run_text.specs.TraceText.{last_lines, lines_text, names_in, run_lines}
use Rattle.run_text.proofs.FewLines.{few_lines}
use Rattle.run_text.proofs.RunLines.{whole_trace}
use Rattle.tap_front.specs.Lines.{refused_line}
use Rattle.tap_front.specs.declared.offence.Offence.{Offence}
use Rattle.tapc_core.specs.Lines.{bad_line, full_line, no_memory_line, read_fault_line}
use Rattle.tapc_core.specs.Run.{Played, Task}
use Rattle.tapc_core.specs.Written.{IsWritten, Writes}
use Rattle.tapc_core.specs.commands.World.{IsBadTrace, IsFrontOfTrace, IsFullTrace, IsPlayed, IsTrace, IsUnfinished, OfWorld}
use Rattle.tapc_core.specs.declared.files.FileFault.{FileFault}
use Rattle.tapc_core.specs.declared.files.FileFault.TheVariants as file
use Rattle.tapc_core.specs.declared.status.Status.{Status}
use Rattle.tapc_core.specs.declared.status.Status.TheVariants.{Done, Refused, Usage, BadSchedule, ReadFault, WriteFault, LinkFault, NoMemory, NotARun, WorldFull}
use Rattle.tapc_core.specs.inner.Closing.{Closes, ClosesOr, failed, put}
use Rattle.tapc_core.specs.inner.FileFaults.{GivesUp}
use Rattle.tap_settings.specs.Lines.{refused_setting_line}
use Rattle.tap_settings.specs.declared.refusals.SettingRefusal.{SettingRefusal}
use Rattle.tapc_core.specs.declared.start.StartFault.{StartFault}
use Rattle.tapc_core.specs.declared.start.StartFault.TheVariants as start
use Rattle.tapc_core.specs.inner.StartFaults.{StartsNot}
use Rattle.tapc_core.specs.inner.Playing.{AreOf, Broken, IsNext, Passed, Progress}
use Rattle.tapc_core.proofs.GivenTexts.{if_some}
use Rattle.tapc_core.proofs.Steps.{appends_more, appends_none}
use Rattle.exact_choice.specs.Runnable.{IsRunnable}
use Rattle.timed_runs.proofs.DelaysKept.{systems_keep}
use Rattle.world_run.specs.RunsFrom.{IsRunFrom}
use Rattle.world_run.specs.Served.{full_from}
use Rattle.world_run.proofs.Lines.{lines_append}
use Rattle.world_run.proofs.RunsOn.{answered}

-- ---- closing

module _ (Kind : Status → List ℕ → Type 0) where
  output_written : (s : Status) (bytes : List ℕ) → Kind s bytes → IsWritten Kind s bytes
  output_written Done bytes h = h
  output_written Refused bytes h = h
  output_written Usage bytes h = h
  output_written BadSchedule bytes h = h
  output_written ReadFault bytes h = h
  output_written WriteFault bytes h = record { status = WriteFault; whole = bytes; output = h; rest = []; front = append-nil bytes }
  output_written LinkFault bytes h = h
  output_written NoMemory bytes h = h
  output_written NotARun bytes h = h
  output_written WorldFull bytes h = h

  -- the last bytes are put behind others
  pub closes_behind : {status r : Status} {before middle now : Option (List ℕ)} {bytes : List ℕ} (done : List ℕ)
      → Appends before middle done → Kind status (done ++ bytes) → Closes status bytes middle now r → Writes Kind r before now
  closes_behind {status = status} {before = before} {middle = middle} {now = now} {bytes = bytes} done told output (put more) = record {
    bytes = done ++ bytes;
    told = appends_more before middle now done bytes told more;
    kind = output_written status (done ++ bytes) output;
  }
  closes_behind {status = status} {before = before} {middle = middle} {now = now} {bytes = bytes} done told output (failed front rest cut more) = record {
    bytes = done ++ front;
    told = appends_more before middle now done front told more;
    kind = record { status = status; whole = done ++ bytes; output = output; rest = rest; front = append_assoc done front rest ∙ ap (λ x. done ++ x) cut };
  }

  -- the last bytes are all
  pub closes_alone : {status r : Status} {before now : Option (List ℕ)} {bytes : List ℕ}
      → Kind status bytes → Closes status bytes before now r → Writes Kind r before now
  closes_alone {before = before} output closes = closes_behind [] (appends_none before) output closes

  -- the last bytes are all, or memory was refused and others are
  pub closes_or : {status r : Status} {before now : Option (List ℕ)} {bytes others : List ℕ}
      → Kind status bytes → Kind NoMemory others → ClosesOr status bytes others before now r → Writes Kind r before now
  closes_or output refused (inl h) = closes_alone output h
  closes_or output refused (inr h) = closes_alone refused h

  -- a command that has nothing to work on writes one line
  pub gives_up : (fault : FileFault) (r : Status) (before now : Option (List ℕ)) → ((o : Offence) → fault ≡ file.Refused o → Kind Refused (refused_line o))
      → Kind ReadFault read_fault_line → Kind NoMemory no_memory_line → GivesUp fault before now r → Writes Kind r before now
  gives_up (file.Refused o) r before now refused unread none (inl h) = closes_alone (refused o refl) h
  gives_up (file.Refused o) r before now refused unread none (inr h) = closes_alone none h
  gives_up file.ReadFault r before now refused unread none h = closes_alone unread h
  gives_up file.NoMemory r before now refused unread none h = closes_alone none h

-- a command that has nothing to run writes one line
pub starts_not : (Kind : Status → List ℕ → Type 0) (fault : StartFault) (r : Status) (before now : Option (List ℕ)) → ((o : Offence) → fault ≡ start.File (file.Refused o) → Kind Refused (refused_line o))
    → ((m : SettingRefusal) → fault ≡ start.Misset m → Kind Refused (refused_setting_line m)) → Kind ReadFault read_fault_line → Kind NoMemory no_memory_line → StartsNot fault before now r → Writes Kind r before now
starts_not Kind (start.Misset m) r before now refused misset unread none h = closes_or Kind (misset m refl) none h
starts_not Kind (start.File f) r before now refused misset unread none h = gives_up Kind f r before now (λ o e. refused o (ap start.File e)) unread none h

-- ---- schedules

of_schedule : (o : Option (List ℕ)) (schedule : List ℕ) (K : List ℕ → Type 0) → K schedule → IfSome o (λ t. schedule ≡ t) → IfSome o K
of_schedule o schedule K h same = if_some o (λ t. schedule ≡ t) K (λ t e. subst K e h) same

spells_all : (names : List (List ℕ)) (schedule : List ℕ) (events : List Event) → Passed names schedule events []
    → (schedule ≡ events_text names events) ⊎ (schedule ++ 10 ∷ [] ≡ events_text names events)
spells_all names schedule events (inl h) = inl (h ∙ append-nil (events_text names events))
spells_all names schedule events (inr h) = inr h.1

goes_on : (names : List (List ℕ)) (schedule rest : List ℕ) (events : List Event) → (rest ≡ [] → ⊥) → Passed names schedule events rest → schedule ≡ events_text names events ++ rest
goes_on names schedule rest events more (inl h) = h
goes_on names schedule rest events more (inr h) = absurd (more h.0)

begins : (names : List (List ℕ)) (schedule rest : List ℕ) (events : List Event) → Passed names schedule events rest
    → (behind : List ℕ) × (schedule ++ 10 ∷ [] ≡ events_text names events ++ behind)
begins names schedule rest events (inl h) = (rest ++ 10 ∷ [], ap (λ x. x ++ 10 ∷ []) h ∙ append_assoc (events_text names events) rest (10 ∷ []))
begins names schedule rest events (inr h) = ([], h.1 ∙ sym (append-nil (events_text names events)))

-- ---- outputs

abbrev played : {seed : ℕ} {system : System} {inputs : Inputs} {schedule rest : List ℕ} {number : ℕ} {s : State} {before now : Option (List ℕ)} {page : List ℕ} {task : Task}
    → AreOf seed system inputs schedule task → Progress seed (semantics_of system) (opening_state (semantics_of system) inputs) schedule rest number s before now page → Played task
played {seed = seed} {system = system} {inputs = inputs} {s = s} {task = task} of p = record {
  semantics = semantics_of system;
  inputs = inputs;
  gives = of.gives;
  events = p.events;
  labels = p.labels;
  last = s;
  run = subst (λ n. IsRunFrom n (semantics_of system) (opening_state (semantics_of system) inputs) p.events p.labels s) (sym of.seed_is) p.run;
  delays = systems_keep system inputs p.labels s (answered (semantics_of system) (opening_state (semantics_of system) inputs) s p.events p.labels p.run.answers);
}

-- nothing is falling at the end of a run
settled_end : (m : Semantics) (s t : State) (es : List Event) (labels : List Label) → s.falling ≡ None → Answers m s es labels t → t.falling ≡ None
settled_end m s t [] labels settled h = ap (λ x. x.falling) h.1 ∙ settled
settled_end m s t (e ∷ es) labels settled h = settled_end m h.2 t es h.1 h.4.settled h.5

pub trace_output : {seed : ℕ} {system : System} {inputs : Inputs} {schedule : List ℕ} {number : ℕ} {s : State} {before now : Option (List ℕ)} {page : List ℕ} {task : Task}
    → IsRunnable system → Fits (semantics_of system) (opening_state (semantics_of system) inputs) → AreOf seed system inputs schedule task → (p : Progress seed (semantics_of system) (opening_state (semantics_of system) inputs) schedule [] number s before now page)
    → IsTrace task (p.put ++ (page ++ lines_text (last_lines (semantics_of system) s)))
trace_output {system = system} {inputs = inputs} {schedule = schedule} {s = s} {page = page} {task = task} runnable fits of p =
    let m = semantics_of system in
    let start = opening_state m inputs in
    let answers = p.run.answers in
    let last = last_lines m s in
    let whole = whole_trace m start s p.labels p.lines p.shown (answered m start s p.events p.labels answers) (settled_end m start s p.events p.labels refl answers) in
    record {
      run = played of p;
      schedule = of_schedule task.schedule schedule (λ t. SpellsSchedule (names_in m) t p.events)
          (p.listed, spells_all (names_in m) schedule p.events p.passed) of.schedule_is;
      is = record {
        lines = p.lines ++ last;
        told = whole;
        sized = p.sized;
        few = few_lines m start s p.events p.labels (p.lines ++ last) runnable.safe.begins runnable.safe.keeps fits p.listed.few answers whole;
        text = sym (append_assoc p.put page (lines_text last)) ∙ ap (λ z. z ++ lines_text last) (sym p.is) ∙ sym (lines_append p.lines last);
      };
    }

-- a number above the limit is behind as many events as a schedule may have
bad_after : {names : List (List ℕ)} (events : List Event) (rest : List ℕ) (number : ℕ) → number ≡ length events + 1 → length events ≤ most_events
    → (most_events < number) ⊎ BeginsBadly names rest → (length events ≡ most_events) ⊎ BeginsBadly names rest
bad_after events rest number count few (inl above) = inl (omega (arith, count, few, above))
bad_after events rest number count few (inr bad) = inr bad

-- the text of the lines so far
so_far : {seed : ℕ} {m : Semantics} {start : State} {schedule rest : List ℕ} {number : ℕ} {s : State} {before now : Option (List ℕ)} {page : List ℕ} → (p : Progress seed m start schedule rest number s before now page)
    → option_map lines_text (run_lines m start p.labels) ≡ Some (p.put ++ page)
so_far p = ap (option_map lines_text) p.shown ∙ ap Some p.is

pub bad_output : {seed : ℕ} {system : System} {inputs : Inputs} {schedule rest : List ℕ} {number : ℕ} {s : State} {before now : Option (List ℕ)} {page : List ℕ} {task : Task}
    → AreOf seed system inputs schedule task → (rest ≡ [] → ⊥) → (most_events < number) ⊎ BeginsBadly (names_in (semantics_of system)) rest
    → (p : Progress seed (semantics_of system) (opening_state (semantics_of system) inputs) schedule rest number s before now page) → IsBadTrace task (p.put ++ (page ++ bad_line number))
bad_output {system = system} {schedule = schedule} {rest = rest} {number = number} {page = page} {task = task} of more bad p =
    let names = names_in (semantics_of system) in
    record {
      run = played of p;
      schedule = of_schedule task.schedule schedule (λ t. GoesOnAfter names t p.events)
          (record { rest = rest; listed = p.listed; split = goes_on names schedule rest p.events more p.passed; more = more; bad = bad_after p.events rest number p.count p.listed.few bad }) of.schedule_is;
      lines = p.put ++ page;
      shown = so_far p;
      is = sym (append_assoc p.put page (bad_line number)) ∙ ap (λ n. (p.put ++ page) ++ bad_line n) p.count;
    }

-- the line of an event comes next
meets : {names : List (List ℕ)} {schedule rest : List ℕ} {events : List Event} {number : ℕ} → AreListed (length names) events → Passed names schedule events rest → IsNext names rest number
    → number ≡ length events + 1 → MeetsEvent names schedule events
meets {names = names} {schedule = schedule} {rest = rest} {events = events} listed passed next count = record {
  rest = rest;
  listed = listed;
  split = goes_on names schedule rest events next.some passed;
  line = next.line;
  behind = next.behind;
  first = next.first;
  event = next.event;
  next = next.is;
  one_more = let few = next.few in omega (arith, few, count);
}

pub full_output : {seed : ℕ} {system : System} {inputs : Inputs} {schedule rest : List ℕ} {number cells : ℕ} {s : State} {before now : Option (List ℕ)} {page : List ℕ} {task : Task}
    → AreOf seed system inputs schedule task → IsNext (names_in (semantics_of system)) rest number → full_from < cells → cells ≡ cells_in s
    → (p : Progress seed (semantics_of system) (opening_state (semantics_of system) inputs) schedule rest number s before now page) → IsFullTrace task (p.put ++ (page ++ full_line cells))
full_output {system = system} {schedule = schedule} {cells = cells} {s = s} {page = page} {task = task} of next many same p =
    record {
      run = played of p;
      schedule = of_schedule task.schedule schedule (λ t. MeetsEvent (names_in (semantics_of system)) t p.events) (meets p.listed p.passed next p.count) of.schedule_is;
      many = subst (λ n. full_from < n) same many;
      lines = p.put ++ page;
      shown = so_far p;
      is = sym (append_assoc p.put page (full_line cells)) ∙ ap (λ n. (p.put ++ page) ++ full_line n) same;
    }

front_output : {seed : ℕ} {system : System} {inputs : Inputs} {schedule rest : List ℕ} {number : ℕ} {s : State} {before now : Option (List ℕ)} {page : List ℕ} {task : Task}
    → AreOf seed system inputs schedule task → (p : Progress seed (semantics_of system) (opening_state (semantics_of system) inputs) schedule rest number s before now page) → IsFrontOfTrace task (p.put ++ page)
front_output {system = system} {schedule = schedule} {rest = rest} {task = task} of p =
    let names = names_in (semantics_of system) in
    let b = begins names schedule rest p.events p.passed in
    record {
      run = played of p;
      schedule = of_schedule task.schedule schedule (λ t. BeginsSchedule names t p.events) (record { listed = p.listed; rest = b.0; split = b.1 }) of.schedule_is;
      is = so_far p;
    }

pub unfinished_output : {seed : ℕ} {system : System} {inputs : Inputs} {schedule rest : List ℕ} {number : ℕ} {s : State} {before now : Option (List ℕ)} {page : List ℕ} {task : Task}
    → AreOf seed system inputs schedule task → (p : Progress seed (semantics_of system) (opening_state (semantics_of system) inputs) schedule rest number s before now page)
    → IsUnfinished task (p.put ++ (page ++ no_memory_line))
unfinished_output {page = page} of p = record {
  front = p.put ++ page;
  shown = inr (front_output of p);
  is = sym (append_assoc p.put page no_memory_line);
}

pub broken_output : {seed : ℕ} {system : System} {inputs : Inputs} {schedule : List ℕ} {before now : Option (List ℕ)} {task : Task}
    → AreOf seed system inputs schedule task → Broken seed (semantics_of system) (opening_state (semantics_of system) inputs) schedule before now → Writes (OfWorld task) WriteFault before now
broken_output {system = system} {before = before} {now = now} of b =
    let p = b.progress in
    record {
      bytes = p.put ++ b.front;
      told = appends_more before b.middle now p.put b.front p.told b.told;
      kind = record {
        status = NoMemory;
        whole = p.put ++ (b.page ++ no_memory_line);
        output = unfinished_output of p;
        rest = b.behind ++ no_memory_line;
        front =
            append_assoc p.put b.front (b.behind ++ no_memory_line)
            ∙ ap (λ x. p.put ++ x) (sym (append_assoc b.front b.behind no_memory_line) ∙ ap (λ x. x ++ no_memory_line) b.cut);
      };
    }

-- ---- the ends of a run

-- the same page, as it was handed on
pub on_page : {seed : ℕ} {m : Semantics} {start : State} {schedule rest : List ℕ} {number : ℕ} {s : State} {before now : Option (List ℕ)} {page given : List ℕ}
    → given ≡ page → Progress seed m start schedule rest number s before now page → Progress seed m start schedule rest number s before now given
on_page {seed = seed} {m = m} {start = start} {schedule = schedule} {rest = rest} {number = number} {s = s} {before = before} {now = now} e p =
    subst (λ x. Progress seed m start schedule rest number s before now x) (sym e) p

-- the same state, as the run began in it
pub progress_from : {seed : ℕ} {m : Semantics} {start begun : State} {schedule rest : List ℕ} {number : ℕ} {s : State} {before now : Option (List ℕ)} {page : List ℕ}
    → begun ≡ start → Progress seed m begun schedule rest number s before now page → Progress seed m start schedule rest number s before now page
progress_from {seed = seed} {m = m} {schedule = schedule} {rest = rest} {number = number} {s = s} {before = before} {now = now} {page = page} e p =
    subst (λ x. Progress seed m x schedule rest number s before now page) e p

pub broken_from : {seed : ℕ} {m : Semantics} {start begun : State} {schedule : List ℕ} {before now : Option (List ℕ)} → begun ≡ start → Broken seed m begun schedule before now → Broken seed m start schedule before now
broken_from {seed = seed} {m = m} {schedule = schedule} {before = before} {now = now} e b = subst (λ x. Broken seed m x schedule before now) e b

-- the run was played to the end of its schedule
pub trace_closes : {seed : ℕ} (task : Task) {system after : System} {inputs : Inputs} {schedule : List ℕ} {number : ℕ} {s : State} {before middle now : Option (List ℕ)} {page : List ℕ} {r : Status}
    → after ≡ system → IsRunnable system → Fits (semantics_of system) (opening_state (semantics_of system) inputs) → AreOf seed system inputs schedule task → Progress seed (semantics_of system) (opening_state (semantics_of system) inputs) schedule [] number s before middle page
    → ClosesOr Done (page ++ lines_text (last_lines (semantics_of after) s)) (page ++ no_memory_line) middle now r → Writes (OfWorld task) r before now
trace_closes task {s = s} {middle = middle} {now = now} {page = page} {r = r} still runnable fits of p (inl h) =
    closes_behind (OfWorld task) p.put p.told (trace_output runnable fits of p)
    (subst (λ x. Closes Done (page ++ lines_text (last_lines (semantics_of x) s)) middle now r) still h)
trace_closes task still runnable fits of p (inr h) = closes_behind (OfWorld task) p.put p.told (unfinished_output of p) h

-- a line is that of no event
pub bad_closes : {seed : ℕ} (task : Task) {system : System} {inputs : Inputs} {schedule rest : List ℕ} {number : ℕ} {s : State} {before middle now : Option (List ℕ)} {page : List ℕ} {r : Status}
    → AreOf seed system inputs schedule task → (rest ≡ [] → ⊥) → (most_events < number) ⊎ BeginsBadly (names_in (semantics_of system)) rest
    → Progress seed (semantics_of system) (opening_state (semantics_of system) inputs) schedule rest number s before middle page → ClosesOr BadSchedule (page ++ bad_line number) (page ++ no_memory_line) middle now r → Writes (OfWorld task) r before now
bad_closes task of more bad p (inl h) = closes_behind (OfWorld task) p.put p.told (bad_output of more bad p) h
bad_closes task of more bad p (inr h) = closes_behind (OfWorld task) p.put p.told (unfinished_output of p) h

-- an event is reached with too many cells
pub full_closes : {seed : ℕ} (task : Task) {system : System} {inputs : Inputs} {schedule rest : List ℕ} {number cells : ℕ} {s : State} {before middle now : Option (List ℕ)} {page : List ℕ} {r : Status}
    → AreOf seed system inputs schedule task → IsNext (names_in (semantics_of system)) rest number → full_from < cells → cells ≡ cells_in s
    → Progress seed (semantics_of system) (opening_state (semantics_of system) inputs) schedule rest number s before middle page → ClosesOr WorldFull (page ++ full_line cells) (page ++ no_memory_line) middle now r → Writes (OfWorld task) r before now
full_closes task of next many same p (inl h) = closes_behind (OfWorld task) p.put p.told (full_output of next many same p) h
full_closes task of next many same p (inr h) = closes_behind (OfWorld task) p.put p.told (unfinished_output of p) h

-- memory was refused
pub unfinished_closes : {seed : ℕ} (task : Task) {system : System} {inputs : Inputs} {schedule rest : List ℕ} {number : ℕ} {s : State} {before middle now : Option (List ℕ)} {page : List ℕ} {r : Status}
    → AreOf seed system inputs schedule task → Progress seed (semantics_of system) (opening_state (semantics_of system) inputs) schedule rest number s before middle page
    → Closes NoMemory (page ++ no_memory_line) middle now r → Writes (OfWorld task) r before now
unfinished_closes task of p h = closes_behind (OfWorld task) p.put p.told (unfinished_output of p) h

-- what is so of a status and of a failed put is so of what closes with the status
pub closes_answered : {status r : Status} {bytes : List ℕ} {before now : Option (List ℕ)} (P : Status → Type 0) → P status → P WriteFault → Closes status bytes before now r → P r
closes_answered P h k (put told) = h
closes_answered P h k (failed front rest cut told) = k

pub answered_or : {status r : Status} {bytes others : List ℕ} {before now : Option (List ℕ)} (P : Status → Type 0) → P status → P NoMemory → P WriteFault → ClosesOr status bytes others before now r → P r
answered_or P h m k (inl c) = closes_answered P h k c
answered_or P h m k (inr c) = closes_answered P m k c

pub closes_played : {status r : Status} {bytes : List ℕ} {before now : Option (List ℕ)} → IsPlayed status → Closes status bytes before now r → IsPlayed r
closes_played h = closes_answered IsPlayed h tt

-- nothing but that memory was refused
pub refused_memory : (task : Task) → IsUnfinished task no_memory_line
refused_memory task = record { front = []; shown = inl refl; is = refl }
