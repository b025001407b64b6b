-- A run over the forms in memory.
use Rattle.std.proofs.Common.{◌≡◌, ℕ, List, Option, Some, None, IfSome, refl, subst}
use Rattle.core_tests.specs.InMemory.{IsTraceOfRun, TookTrace}
use Rattle.run_text.specs.ScheduleText.{SpellsSchedule}
use Rattle.run_text.specs.TraceText.{names_in}
use Rattle.tap_settings.specs.SettingText.{Assignment}
use Rattle.tapc_core.specs.Command.{AreFound}
use Rattle.link_trait.specs.Entries.{contents_of}
use Rattle.link_trait.specs.MemorySink.{SinkValue}
use Rattle.link_trait.specs.MemoryStore.{StoreValue}
use Rattle.link_trait.specs.Outside.{IsTold}
use Rattle.tapc_core.specs.Run.{Gives}
use Rattle.tapc_core.specs.Written.{Puts}
use Rattle.tapc_core.specs.commands.World.{IsTrace, reads_both, task_of}
use Rattle.tapc_core.specs.declared.status.Status.TheVariants.{Done}
use Rattle.tapc_core.proofs.GivenTexts.{where_told}

-- what is told
what_is : (o : Option (List ℕ)) → IsTold o → (bytes : List ℕ) × (o ≡ Some bytes)
what_is None t = absurd t
what_is (Some bytes) t = (bytes, refl)

-- what holds of what is told
of_it : (o : Option (List ℕ)) (P : List ℕ → Type 0) (bytes : List ℕ) → o ≡ Some bytes → IfSome o P → P bytes
of_it o P bytes e h = let held : IfSome (Some bytes) P = subst (λ x. IfSome x P) e h in held

pub took : (system schedule : List ℕ) (seed : ℕ) (settings : List Assignment) (store : StoreValue) (old new : SinkValue)
    → AreFound (reads_both system schedule Done) (contents_of store.entries)
    → Puts (IsTrace (task_of system schedule seed settings (contents_of store.entries))) (Some old.written) (Some new.written)
    → TookTrace system schedule seed settings store old new
took system schedule seed settings store old new found p =
    let contents = contents_of store.entries in
    let text = what_is (contents system) found.0 in
    let lines = what_is (contents schedule) found.1.0 in
    let run = p.kind.run in
    let trace : IsTraceOfRun text.0 lines.0 seed settings p.bytes = record {
      semantics = run.semantics;
      inputs = run.inputs;
      gives = of_it (contents system) (λ t. Gives t settings run.semantics run.inputs) text.0 text.1 (where_told (contents system) settings run.semantics run.inputs run.gives);
      events = run.events;
      spelled = of_it (contents schedule) (λ t. SpellsSchedule (names_in run.semantics) t run.events) lines.0 lines.1 p.kind.schedule;
      labels = run.labels;
      last = run.last;
      run = run.run;
      delays = run.delays;
      is = p.kind.is;
    } in
    record { text = text.0; text_is = text.1; lines = lines.0; lines_are = lines.1; bytes = p.bytes; trace = trace; took = p.told }
