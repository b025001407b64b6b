-- Where no count of faults rose, what the files hold and the settings decide the status, but for want of memory.
use Rattle.std.proofs.Common.{◌≡◌, inl, inr, ℕ, List, Option, Some, None, Result, IfSome, refl, ap, sym, subst, ◌∙◌}
use Rattle.std.specs.Prelude.{IsSome}
use Rattle.std.proofs.lemmas.Option.{none-some, same_Some}
use Rattle.tap_base.specs.declared.ast.Ast.{Ast}
use Rattle.tap_base.specs.declared.system.Inputs.{Inputs}
use Rattle.tap_base.specs.declared.system.System.{System}
use Rattle.tap_exec.specs.Semantics.{Semantics, semantics_of}
use Rattle.abstract_run.specs.Opening.{opening_state}
use Rattle.replay.specs.Laws.{Says}
use Rattle.replay.specs.Traces.{Judges}
use Rattle.replay.specs.declared.fault.ReplayFault.{ReplayFault}
use Rattle.replay.proofs.OneVerdict.{one_verdict}
use Rattle.run_text.specs.ScheduleText.{GoesOnAfter, SpellsSchedule}
use Rattle.run_text.specs.TraceText.{names_in}
use Rattle.run_text.proofs.ScheduleBoth.{never_both}
use Rattle.tap_front.specs.Accepting.{Accepted, IsReadAs}
use Rattle.tap_front.specs.Offences.{IsMisspelling, Offends}
use Rattle.tap_front.specs.declared.offence.Offence.{Offence}
use Rattle.tap_front.specs.declared.offence.Offence.TheVariants.{Alike, Coded}
use Rattle.tap_front.proofs.OneOffence.{never_refused, one_system_of_text}
use Rattle.tap_settings.specs.GivenInputs.{inputs_given}
use Rattle.tap_base.specs.ListWords.{first}
use Rattle.tap_settings.specs.Offences.{settings_offences}
use Rattle.tap_settings.specs.SettingText.{Assignment}
use Rattle.tap_settings.specs.declared.refusals.SettingRefusal.{SettingRefusal}
use Rattle.tap_settings.proofs.Given.{given_or_refused}
use Rattle.tapc_core.specs.Causes.{HasSinkCause, HasStoreCause, IsSure}
use Rattle.tapc_core.specs.Command.{Contents}
use Rattle.tapc_core.specs.Run.{FileGives, Gives, Played, Task}
use Rattle.tapc_core.specs.Words.{Asked, check, make, print, replay, soak, world}
use Rattle.tapc_core.specs.Written.{IsWritten, Writes}
use Rattle.tapc_core.specs.commands.All.{command_for}
use Rattle.tapc_core.specs.commands.Check.{CheckIsSure, OfCheck, accepts, refuses as check_refuses}
use Rattle.tapc_core.specs.commands.Make.{MakeIsSure, OfMake, Order, makes, refuses as make_refuses}
use Rattle.tapc_core.specs.commands.NoCommand.{NoneIsSure, OfNone, usage}
use Rattle.tapc_core.specs.commands.Print.{OfPrint, PrintIsSure, prints, refuses as print_refuses}
use Rattle.tapc_core.specs.commands.Replay.{HasVerdict, Judged, OfReplay, ReplayIsSure, Trial, breaks, missets as replay_missets, refuses as replay_refuses, runs, strays, trial_of}
use Rattle.tapc_core.specs.commands.Settings.{HasInputs, HasMisset, IsUnset}
use Rattle.tapc_core.specs.commands.Soak.{Load, OfSoak, SoakIsSure, load_of, missets as soak_missets, refuses as soak_refuses, soaks}
use Rattle.tapc_core.specs.commands.Text.{HasOffence, HasSystem, HasTree, IsRefusal}
use Rattle.tapc_core.specs.commands.World.{HasSchedule, IsBadTrace, IsTrace, OfWorld, WorldIsSure, task_of, missets, plays, refuses, stops}
use Rattle.tapc_core.specs.declared.status.Status.{Status}
use Rattle.tapc_core.specs.declared.status.Status.TheVariants.{Done, Refused, Usage, BadSchedule, ReadFault, WriteFault, LinkFault, NoMemory, NotARun, WorldFull}
use Rattle.tapc_core.proofs.Fronts.{names_apart, told_names}
use Rattle.tapc_core.proofs.GivenTexts.{held_told, set_up_gives, where_told}

told : {A : Type 0} (o : Option A) (x : A) (P : A → Type 0) → o ≡ Some x → IfSome o P → P x
told o x P is h = subst (λ y. IfSome y P) is h

-- ---- what can be answered

-- One status, or a fault, or that memory was refused.
data Outcome (sure : Status) : Status → Type 0 where
  done : Outcome sure sure
  unread : Outcome sure ReadFault
  unwritten : Outcome sure WriteFault
  no_memory : Outcome sure NoMemory

is_sure : (sure r : Status) (sb sn ob on : ℕ) → Outcome sure r → HasStoreCause r sb sn → HasSinkCause r ob on → IsSure sure sb sn ob on r
is_sure sure r sb sn ob on done store sink = λ kept still. inl refl
is_sure sure r sb sn ob on unread store sink = λ kept still. absurd (kept store.1)
is_sure sure r sb sn ob on unwritten store sink = λ kept still. absurd (still sink.1)
is_sure sure r sb sn ob on no_memory store sink = λ kept still. inr refl

-- ---- texts

not_refused : (text : Option (List ℕ)) (bytes : List ℕ) → HasSystem Accepted text → IsRefusal Offends text bytes → ⊥
not_refused text bytes v h = never_refused.1 v.text v.system h.offence v.taken (told text v.text (λ t. Offends t h.offence) v.text_is h.first)

-- a text that is read as a tree has no offence that keeps it from that
no_misspelling : (text : List ℕ) (tree : Ast) (o : Offence) → IsReadAs text tree → IsMisspelling text o → ⊥
no_misspelling text tree (Coded r) h m = never_refused.0 text tree r h m
no_misspelling text tree (Alike place first second) h m = m

not_misspelled : (text : Option (List ℕ)) (bytes : List ℕ) → HasTree text → IsRefusal IsMisspelling text bytes → ⊥
not_misspelled text bytes v h = no_misspelling v.text v.tree h.offence v.read (told text v.text (λ t. IsMisspelling t h.offence) v.text_is h.first)

not_accepted : (text : Option (List ℕ)) (system : System) → HasOffence Offends text → IfSome text (λ t. Accepted t system) → ⊥
not_accepted text system b h = never_refused.1 b.text system b.offence (told text b.text (λ t. Accepted t system) b.text_is h) b.first

-- what a run is given, where the text is told
given_here : (task : Task) (text : List ℕ) (r : Played task) → task.text ≡ Some text → Gives text task.settings r.semantics r.inputs
given_here task text r is = told task.text text (λ t. Gives t task.settings r.semantics r.inputs) is (where_told task.text task.settings r.semantics r.inputs r.gives)

not_read : (text : Option (List ℕ)) (tree : Ast) → HasOffence IsMisspelling text → IfSome text (λ t. IsReadAs t tree) → ⊥
not_read text tree b h = no_misspelling b.text tree b.offence (told text b.text (λ t. IsReadAs t tree) b.text_is h) b.first

-- ---- schedules

-- what a text gives is what the system says that it can be run as
given_same : (text : List ℕ) (settings : List Assignment) (system : System) (m : Semantics) (inputs : Inputs) → Accepted text system → Gives text settings m inputs → m ≡ semantics_of system
given_same text settings system m inputs a g = g.says ∙ ap semantics_of (one_system_of_text text g.system system g.runs a)

-- a schedule of events has no bad line
not_both : (task : Task) (bytes : List ℕ) → HasSchedule SpellsSchedule task → IsBadTrace task bytes → ⊥
not_both task bytes v h =
    let r = h.run in
    let t = v.start.text in
    let same = given_same t.text task.settings t.system r.semantics r.inputs t.taken (given_here task t.text r t.text_is) in
    let goes_on = told task.schedule v.schedule (λ text. GoesOnAfter (names_in r.semantics) text r.events) v.schedule_is h.schedule in
    never_both (names_in (semantics_of t.system)) v.schedule v.events r.events (names_apart t.text t.system t.taken) v.kind
    (subst (λ m. GoesOnAfter (names_in m) v.schedule r.events) same goes_on)

-- and one with a bad line is not played to its end
not_ended : (task : Task) (bytes : List ℕ) → HasSchedule GoesOnAfter task → IsTrace task bytes → ⊥
not_ended task bytes v h =
    let r = h.run in
    let t = v.start.text in
    let same = given_same t.text task.settings t.system r.semantics r.inputs t.taken (given_here task t.text r t.text_is) in
    let spells = told task.schedule v.schedule (λ text. SpellsSchedule (names_in r.semantics) text r.events) v.schedule_is h.schedule in
    never_both (names_in (semantics_of t.system)) v.schedule r.events v.events (names_apart t.text t.system t.taken)
    (subst (λ m. SpellsSchedule (names_in m) v.schedule r.events) same spells) v.kind

-- ---- settings

-- settings that give inputs have no offence
not_both_set : (system : System) (settings : List Assignment) (inputs : Inputs) (r : SettingRefusal) → inputs_given system settings ≡ Some inputs → first (settings_offences system settings) ≡ Some r → ⊥
not_both_set system settings inputs r given offends =
    let none = (given_or_refused system settings).1 (subst IsSome (sym given) refl) in none-some r (sym (ap first none) ∙ offends)

-- where a text can be run and the settings give its system inputs, neither is refused
not_unset : (text : Option (List ℕ)) (settings : List Assignment) (bytes : List ℕ) → HasInputs text settings → IsUnset text settings bytes → ⊥
not_unset text settings bytes v (inl h) = not_refused text bytes v.text h
not_unset text settings bytes v (inr h) =
    let t = v.text in
    let o = h.offence in
    let held = told text t.text (λ x. Accepted x o.system) t.text_is (held_told text o.system o.holds) in
    let same = one_system_of_text t.text t.system o.system t.taken held in
    not_both_set t.system settings v.inputs h.refusal v.given (ap (λ s. first (settings_offences s settings)) same ∙ o.is)

-- a text that gives inputs with settings
gives_here : (text : Option (List ℕ)) (settings : List Assignment) (known : List ℕ) (m : Semantics) (inputs : Inputs) → FileGives text settings m inputs → text ≡ Some known → Gives known settings m inputs
gives_here text settings known m inputs h is = told text known (λ t. Gives t settings m inputs) is (where_told text settings m inputs h)

-- where the text has an offence, or the settings have one, they give nothing
gives_no_offence : (text : Option (List ℕ)) (settings : List Assignment) (m : Semantics) (inputs : Inputs) → HasOffence Offends text → FileGives text settings m inputs → ⊥
gives_no_offence text settings m inputs b h =
    let g = gives_here text settings b.text m inputs h b.text_is in never_refused.1 b.text g.system b.offence g.runs b.first

gives_no_misset : (text : Option (List ℕ)) (settings : List Assignment) (m : Semantics) (inputs : Inputs) → HasMisset text settings → FileGives text settings m inputs → ⊥
gives_no_misset text settings m inputs b h =
    let t = b.text in
    let g = gives_here text settings t.text m inputs h t.text_is in
    let same = one_system_of_text t.text t.system g.system t.taken g.runs in
    not_both_set t.system settings inputs b.refusal (ap (λ s. inputs_given s settings) same ∙ g.given) b.is

-- ---- traces

-- what is written of a trace that is told is what is to be said of it
one_answer : (trial : Trial) (a b : Result Unit ReplayFault) → HasVerdict trial a → Judged trial b → Says a → Says b → a ≡ b
one_answer trial a b v h say tell =
    let t = v.start.text in
    let g = gives_here trial.text trial.settings t.text h.semantics h.inputs h.gives t.text_is in
    let system = one_system_of_text t.text t.system g.system t.taken g.runs in
    let inputs = same_Some h.inputs v.start.inputs (sym g.given ∙ ap (λ s. inputs_given s trial.settings) (sym system) ∙ v.start.given) in
    let judged = told trial.trace v.trace (λ text. Judges h.semantics (opening_state h.semantics h.inputs) text b) v.trace_is h.judged in
    let m = semantics_of t.system in
    let here : Judges m (opening_state m v.start.inputs) v.trace b =
    subst (λ i. Judges m (opening_state m i) v.trace b) inputs (subst (λ x. Judges x (opening_state x h.inputs) v.trace b) (g.says ∙ ap semantics_of (sym system)) judged) in
    one_verdict m (opening_state m v.start.inputs) v.trace a b (told_names t.text t.system t.taken) v.judged here say tell

-- ---- commands

no_command_outcome : (sure r : Status) (bytes : List ℕ) → NoneIsSure sure → IsWritten OfNone r bytes → Outcome sure r
no_command_outcome sure Usage bytes usage h = done
no_command_outcome sure WriteFault bytes usage h = unwritten
no_command_outcome sure Done bytes usage h = absurd h
no_command_outcome sure Refused bytes usage h = absurd h
no_command_outcome sure BadSchedule bytes usage h = absurd h
no_command_outcome sure ReadFault bytes usage h = absurd h
no_command_outcome sure LinkFault bytes usage h = absurd h
no_command_outcome sure NoMemory bytes usage h = absurd h
no_command_outcome sure NotARun bytes usage h = absurd h
no_command_outcome sure WorldFull bytes usage h = absurd h

check_outcome : (text : Option (List ℕ)) (sure r : Status) (bytes : List ℕ) → CheckIsSure text sure → IsWritten (OfCheck text) r bytes → Outcome sure r
check_outcome text sure Done bytes (accepts v) h = done
check_outcome text sure Refused bytes (accepts v) h = absurd (not_refused text bytes v h)
check_outcome text sure Done bytes (check_refuses b) h = absurd (not_accepted text h.system b h.accepted)
check_outcome text sure Refused bytes (check_refuses b) h = done
check_outcome text sure ReadFault bytes s h = unread
check_outcome text sure WriteFault bytes s h = unwritten
check_outcome text sure NoMemory bytes s h = no_memory
check_outcome text sure Usage bytes s h = absurd h
check_outcome text sure BadSchedule bytes s h = absurd h
check_outcome text sure LinkFault bytes s h = absurd h
check_outcome text sure NotARun bytes s h = absurd h
check_outcome text sure WorldFull bytes s h = absurd h

print_outcome : (text : Option (List ℕ)) (sure r : Status) (bytes : List ℕ) → PrintIsSure text sure → IsWritten (OfPrint text) r bytes → Outcome sure r
print_outcome text sure Done bytes (prints v) h = done
print_outcome text sure Refused bytes (prints v) h = absurd (not_misspelled text bytes v h)
print_outcome text sure Done bytes (print_refuses b) h = absurd (not_read text h.tree b h.read)
print_outcome text sure Refused bytes (print_refuses b) h = done
print_outcome text sure ReadFault bytes s h = unread
print_outcome text sure WriteFault bytes s h = unwritten
print_outcome text sure NoMemory bytes s h = no_memory
print_outcome text sure Usage bytes s h = absurd h
print_outcome text sure BadSchedule bytes s h = absurd h
print_outcome text sure LinkFault bytes s h = absurd h
print_outcome text sure NotARun bytes s h = absurd h
print_outcome text sure WorldFull bytes s h = absurd h

world_outcome : (task : Task) (sure r : Status) (bytes : List ℕ) → WorldIsSure task sure → IsWritten (OfWorld task) r bytes → Outcome sure r
world_outcome task sure Done bytes (plays v never) h = done
world_outcome task sure Refused bytes (plays v never) h = absurd (not_unset task.text task.settings bytes v.start h)
world_outcome task sure BadSchedule bytes (plays v never) h = absurd (not_both task bytes v h)
world_outcome task sure WorldFull bytes (plays v never) h = absurd (never bytes h)
world_outcome task sure Done bytes (stops v never) h = absurd (not_ended task bytes v h)
world_outcome task sure Refused bytes (stops v never) h = absurd (not_unset task.text task.settings bytes v.start h)
world_outcome task sure BadSchedule bytes (stops v never) h = done
world_outcome task sure WorldFull bytes (stops v never) h = absurd (never bytes h)
world_outcome task sure Done bytes (refuses b) h = absurd (gives_no_offence task.text task.settings h.run.semantics h.run.inputs b h.run.gives)
world_outcome task sure Refused bytes (refuses b) h = done
world_outcome task sure BadSchedule bytes (refuses b) h = absurd (gives_no_offence task.text task.settings h.run.semantics h.run.inputs b h.run.gives)
world_outcome task sure WorldFull bytes (refuses b) h = absurd (gives_no_offence task.text task.settings h.run.semantics h.run.inputs b h.run.gives)
world_outcome task sure Done bytes (missets b) h = absurd (gives_no_misset task.text task.settings h.run.semantics h.run.inputs b h.run.gives)
world_outcome task sure Refused bytes (missets b) h = done
world_outcome task sure BadSchedule bytes (missets b) h = absurd (gives_no_misset task.text task.settings h.run.semantics h.run.inputs b h.run.gives)
world_outcome task sure WorldFull bytes (missets b) h = absurd (gives_no_misset task.text task.settings h.run.semantics h.run.inputs b h.run.gives)
world_outcome task sure ReadFault bytes s h = unread
world_outcome task sure WriteFault bytes s h = unwritten
world_outcome task sure NoMemory bytes s h = no_memory
world_outcome task sure Usage bytes s h = absurd h
world_outcome task sure LinkFault bytes s h = absurd h
world_outcome task sure NotARun bytes s h = absurd h

replay_outcome : (trial : Trial) (sure r : Status) (bytes : List ℕ) → ReplayIsSure trial sure → IsWritten (OfReplay trial) r bytes → Outcome sure r
replay_outcome trial sure Done bytes (runs v) h = done
replay_outcome trial sure BadSchedule bytes (runs v) h = let e = one_answer trial _ _ v h.1 tt tt in cc
replay_outcome trial sure NotARun bytes (runs v) h = let e = one_answer trial _ _ v h.1 tt tt in cc
replay_outcome trial sure Refused bytes (runs v) h = absurd (not_unset trial.text trial.settings bytes v.start h)
replay_outcome trial sure Done bytes (breaks n v) h = let e = one_answer trial _ _ v h.0 tt tt in cc
replay_outcome trial sure BadSchedule bytes (breaks n v) h = done
replay_outcome trial sure NotARun bytes (breaks n v) h = let e = one_answer trial _ _ v h.1 tt tt in cc
replay_outcome trial sure Refused bytes (breaks n v) h = absurd (not_unset trial.text trial.settings bytes v.start h)
replay_outcome trial sure Done bytes (strays n v) h = let e = one_answer trial _ _ v h.0 tt tt in cc
replay_outcome trial sure BadSchedule bytes (strays n v) h = let e = one_answer trial _ _ v h.1 tt tt in cc
replay_outcome trial sure NotARun bytes (strays n v) h = done
replay_outcome trial sure Refused bytes (strays n v) h = absurd (not_unset trial.text trial.settings bytes v.start h)
replay_outcome trial sure Done bytes (replay_refuses b) h = absurd (gives_no_offence trial.text trial.settings h.0.semantics h.0.inputs b h.0.gives)
replay_outcome trial sure BadSchedule bytes (replay_refuses b) h = absurd (gives_no_offence trial.text trial.settings h.1.semantics h.1.inputs b h.1.gives)
replay_outcome trial sure NotARun bytes (replay_refuses b) h = absurd (gives_no_offence trial.text trial.settings h.1.semantics h.1.inputs b h.1.gives)
replay_outcome trial sure Refused bytes (replay_refuses b) h = done
replay_outcome trial sure Done bytes (replay_missets b) h = absurd (gives_no_misset trial.text trial.settings h.0.semantics h.0.inputs b h.0.gives)
replay_outcome trial sure BadSchedule bytes (replay_missets b) h = absurd (gives_no_misset trial.text trial.settings h.1.semantics h.1.inputs b h.1.gives)
replay_outcome trial sure NotARun bytes (replay_missets b) h = absurd (gives_no_misset trial.text trial.settings h.1.semantics h.1.inputs b h.1.gives)
replay_outcome trial sure Refused bytes (replay_missets b) h = done
replay_outcome trial sure ReadFault bytes s h = unread
replay_outcome trial sure WriteFault bytes s h = unwritten
replay_outcome trial sure NoMemory bytes s h = no_memory
replay_outcome trial sure Usage bytes s h = absurd h
replay_outcome trial sure LinkFault bytes s h = absurd h
replay_outcome trial sure WorldFull bytes s h = absurd h

make_outcome : (order : Order) (sure r : Status) (bytes : List ℕ) → MakeIsSure order.text sure → IsWritten (OfMake order) r bytes → Outcome sure r
make_outcome order sure Done bytes (makes v) h = done
make_outcome order sure Refused bytes (makes v) h = absurd (not_refused order.text bytes v h)
make_outcome order sure Done bytes (make_refuses b) h = absurd (not_accepted order.text h.system b h.accepted)
make_outcome order sure Refused bytes (make_refuses b) h = done
make_outcome order sure ReadFault bytes s h = unread
make_outcome order sure WriteFault bytes s h = unwritten
make_outcome order sure NoMemory bytes s h = no_memory
make_outcome order sure Usage bytes s h = absurd h
make_outcome order sure BadSchedule bytes s h = absurd h
make_outcome order sure LinkFault bytes s h = absurd h
make_outcome order sure NotARun bytes s h = absurd h
make_outcome order sure WorldFull bytes s h = absurd h

soak_outcome : (load : Load) (sure r : Status) (bytes : List ℕ) → SoakIsSure load sure → IsWritten (OfSoak load) r bytes → Outcome sure r
soak_outcome load sure Done bytes (soaks v never) h = done
soak_outcome load sure Refused bytes (soaks v never) h = absurd (not_unset load.text load.settings bytes v h)
soak_outcome load sure WorldFull bytes (soaks v never) h = absurd (never bytes h)
soak_outcome load sure Done bytes (soak_refuses b) h = absurd (gives_no_offence load.text load.settings _ h.inputs b (set_up_gives h.gives))
soak_outcome load sure Refused bytes (soak_refuses b) h = done
soak_outcome load sure WorldFull bytes (soak_refuses b) h = absurd (gives_no_offence load.text load.settings _ h.inputs b (set_up_gives h.gives))
soak_outcome load sure Done bytes (soak_missets b) h = absurd (gives_no_misset load.text load.settings _ h.inputs b (set_up_gives h.gives))
soak_outcome load sure Refused bytes (soak_missets b) h = done
soak_outcome load sure WorldFull bytes (soak_missets b) h = absurd (gives_no_misset load.text load.settings _ h.inputs b (set_up_gives h.gives))
soak_outcome load sure ReadFault bytes s h = unread
soak_outcome load sure WriteFault bytes s h = unwritten
soak_outcome load sure NoMemory bytes s h = no_memory
soak_outcome load sure Usage bytes s h = absurd h
soak_outcome load sure BadSchedule bytes s h = absurd h
soak_outcome load sure LinkFault bytes s h = absurd h
soak_outcome load sure NotARun bytes s h = absurd h

outcome : (asked : Option Asked) (contents : Contents) (sure r : Status) (bytes : List ℕ) → (command_for asked).is_sure contents sure → IsWritten ((command_for asked).writes contents) r bytes → Outcome sure r
outcome None contents sure r bytes s h = no_command_outcome sure r bytes s h
outcome (Some (check system)) contents sure r bytes s h = check_outcome (contents system) sure r bytes s h
outcome (Some (print system)) contents sure r bytes s h = print_outcome (contents system) sure r bytes s h
outcome (Some (world system schedule seed settings)) contents sure r bytes s h = world_outcome (task_of system schedule seed settings contents) sure r bytes s h
outcome (Some (replay system trace settings)) contents sure r bytes s h = replay_outcome (trial_of system trace settings contents) sure r bytes s h
outcome (Some (make system seed events faults)) contents sure r bytes s h = make_outcome (record { text = contents system; seed = seed; events = events; faults = faults }) sure r bytes s h
outcome (Some (soak system seed events faults settings)) contents sure r bytes s h = soak_outcome (load_of system seed events faults settings contents) sure r bytes s h

pub sure_status : (asked : Option Asked) (contents : Contents) (r : Status) (before now : Option (List ℕ)) (sb sn ob on : ℕ) → Writes ((command_for asked).writes contents) r before now
    → HasStoreCause r sb sn → HasSinkCause r ob on → (sure : Status) → (command_for asked).is_sure contents sure → IsSure sure sb sn ob on r
sure_status asked contents r before now sb sn ob on w store sink sure s = is_sure sure r sb sn ob on (outcome asked contents sure r w.bytes s w.kind) store sink
