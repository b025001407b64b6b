use Rattle.std.proofs.Common.{◌≡◌, ◌⊎◌, ◌+◌, ◌<◌, ◌≤◌, ◌^◌, ◌∙◌, ℕ, List, [], Option, Some, Result, Ok, Err, length, refl, ap, sym, subst, arith, rules}
use Rattle.std.specs.Option.{MatchOption, OnSome}
use Rattle.std.specs.Result.{IsErrAnd}
use Rattle.std.proofs.lemmas.List.{length-map}
use Rattle.tap_base.specs.declared.system.System.{System}
use Rattle.tap_exec.specs.Semantics.{Semantics, messages_of, process_semantics, semantics_of}
use Rattle.abstract_run.specs.CellCount.{cells_in}
use Rattle.exact_choice.specs.Runnable.{IsRunnable}
use Rattle.abstract_run.specs.declared.label.Event.{Event}
use Rattle.abstract_run.specs.declared.state.State.{State}
use Rattle.run_text.specs.Names.{AreNames}
use Rattle.run_text.specs.ScheduleText.{IsFirstLine, IsLineOf, IsOfNoEvent, most_events}
use Rattle.run_text.specs.TraceText.{names_in}
use Rattle.tapc_core.specs.declared.lines.Stop.TheVariants as stop
use Rattle.tapc_core.specs.declared.lines.Stop.{Stop}
use Rattle.tapc_core.specs.inner.Playing.{Broken, IsNext, Plays, Progress, StopsAt}
use Rattle.tapc_core.proofs.Steps.{Goes, first_line_taken, goes_more, goes_moved, goes_start}
use Rattle.tapc_core.proofs.lines.play_lines.Goals as goal
use Rattle.world_run.specs.declared.course.Course.{Course}
use Rattle.world_run.specs.Names.{AreNamesOf}
use Rattle.world_run.specs.Served.{NamesProcesses, Served, WorldValue, full_from}
use Rattle.world_run.proofs.LinesName.{named}

-- as many names as processes
pub names_counted : (system : System) → length (names_in (semantics_of system)) ≡ length system.processes
names_counted system = length-map (semantics_of system).processes (λ p. p.name) ∙ length-map system.processes (process_semantics (messages_of system))

few_names : (system : System) (names : List (List ℕ)) → IsRunnable system → names ≡ names_in (semantics_of system) → length names < 2 ^ 32
few_names system names runnable e = let n = ap length e in let few = runnable.safe.begins.few in omega (arith, n, few, length-map (semantics_of system).processes (λ p. p.name))

named_here : (system : System) (names : List (List ℕ)) (line : List ℕ) (e : Event) → names ≡ names_in (semantics_of system) → IsLineOf names line e → NamesProcesses (length system.processes) e
named_here system names line e same h = subst (λ n. NamesProcesses n e) (ap length same ∙ names_counted system) (named (length names) e h.0)

-- the line of the event that was found, and how many events come before it
line_found : (names : List (List ℕ)) (line : List ℕ) (number : ℕ) (found : Option Event) (e : Event) → found ≡ Some e
    → MatchOption found ((most_events < number) ⊎ IsOfNoEvent names line) (λ x. IsLineOf names line x) → OnSome found (number ≤ most_events) → IsLineOf names line e × (number ≤ most_events)
line_found names line number found e is spells few =
    let held : MatchOption (Some e) ((most_events < number) ⊎ IsOfNoEvent names line) (λ x. IsLineOf names line x) = subst (λ o. MatchOption o ((most_events < number) ⊎ IsOfNoEvent names line) (λ x. IsLineOf names line x)) is spells in
    let within : OnSome (Some e) (number ≤ most_events) = subst (λ o. OnSome o (number ≤ most_events)) is few in
    (held, within)

-- a line was served by the system of the run
served_line : {seed : ℕ} {system own : System} {start : State} {schedule rest line tail : List ℕ} {number : ℕ} {old new : Course} {before now : Option (List ℕ)} {page after : List ℕ} {e : Event}
    {names : List (List ℕ)} → own ≡ system → names ≡ names_in (semantics_of system) → number ≤ most_events → Goes seed (semantics_of system) start schedule rest number old before now page → (rest ≡ [] → ⊥)
    → IsFirstLine rest line tail → IsLineOf names line e → cells_in old.state ≤ full_from → Served (semantics_of own) e old new page after → Goes seed (semantics_of system) start schedule tail (number + 1) new before now after
served_line {line = line} {old = old} {new = new} {page = page} {after = after} {e = e} same is few g some first spells room served =
    goes_more few g some first (subst (λ n. IsLineOf n line e) is spells) room (subst (λ x. Served (semantics_of x) e old new page after) same served)

-- an event that was not served stops the playing where it is
stopped : {seed : ℕ} {m : Semantics} {start : State} {schedule rest : List ℕ} {number : ℕ} {before now : Option (List ℕ)} {page : List ℕ} (old new : WorldValue) (after : List ℕ) (e : Event) (fault : Stop)
    → IsNext (names_in m) rest number → Goes seed m start schedule rest number old.course before now page → StopsAt e old page (Err fault) new after → Plays seed m start schedule before (Err fault) new.course.state now after
stopped {seed = seed} {m = m} {start = start} {schedule = schedule} {rest = rest} {number = number} {before = before} {now = now} {page = page} old new after e (stop.Full cells) next g h =
    let over = h.0 in
    let here = subst (λ (w : WorldValue). Progress seed m start schedule rest number w.course.state before now page) (sym h.1) g.progress in
    (rest, number, next, over.many, over.counted ∙ ap (λ (w : WorldValue). cells_in w.course.state) (sym h.1), subst (λ p. Progress seed m start schedule rest number new.course.state before now p) (sym h.2) here)
stopped {seed = seed} {m = m} {start = start} {schedule = schedule} {rest = rest} {number = number} {before = before} {now = now} old new after e stop.NoMemory next g h =
    (rest, number, old.course.state, subst (λ p. Progress seed m start schedule rest number old.course.state before now p) (sym h.2) g.progress)
stopped old new after e stop.Failed next g h = absurd h
stopped old new after e (stop.BadLine number) next g h = absurd h

pub loop-rest-smaller : goal.loop-rest-smaller
loop-rest-smaller g c = first_line_taken c.loop-rest.rest.now _ c.first_line.result.1.now (search rules) c.first_line.ensures.first

pub loop-rest-init : goal.loop-rest-init
loop-rest-init g c = record {
  going = rw c.requires.empty (goes_start _ _ _ _ _ c.requires.fresh.cursors c.requires.fresh.errors c.requires.fresh.generators);
  same = refl;
  goes_on = c.requires.fresh.goes_on;
  kept = refl;
  counted = omega arith;
  short = omega arith;
}

pub numbered_event-requires-clause-apart : goal.numbered_event-requires-clause-apart
numbered_event-requires-clause-apart g c = subst AreNames (sym c.requires.names.processes) c.requires.apart

pub numbered_event-requires-clause-few : goal.numbered_event-requires-clause-few
numbered_event-requires-clause-few g c = few_names c.args.world.now.system c.args.names.now.processes c.requires.fresh.goes_on.runnable c.requires.names.processes

pub serve_next-requires-clause-names : goal.serve_next-requires-clause-names
serve_next-requires-clause-names g c = subst (λ x. AreNamesOf (semantics_of x) c.args.names.now) (sym c.loop-rest.invariant.same) c.requires.names

pub serve_next-requires-clause-named : goal.serve_next-requires-clause-named
serve_next-requires-clause-named g c =
    subst (λ x. NamesProcesses (length x.processes) c.in-Some.event) (sym c.loop-rest.invariant.same)
    (named_here c.args.world.now.system c.args.names.now.processes _ c.in-Some.event c.requires.names.processes (line_found c.args.names.now.processes _ c.loop-rest.number c.in_ok-event.field-0 c.in-Some.event c.in-Some.is c.in_ok-event.ensures.event c.in_ok-event.ensures.within).0)

pub loop-rest-preserved-in_ok-put_full_page : goal.loop-rest-preserved-in_ok-put_full_page
loop-rest-preserved-in_ok-put_full_page g c =
    let some : c.loop-rest.rest.now ≡ [] → ⊥ = search rules in
    let shorter = first_line_taken c.loop-rest.rest.now _ c.first_line.result.1.now some c.first_line.ensures.first in
    let found = line_found c.args.names.now.processes _ c.loop-rest.number c.in_ok-event.field-0 c.in-Some.event c.in-Some.is c.in_ok-event.ensures.event c.in_ok-event.ensures.within in
    let few = found.1 in
    let moves = c.in_ok-put_full_page.ensures.moves in
    let inv = c.loop-rest.invariant in
    let served = c.in_ok-serve_next.ensures.stops in
    let room = served.0.room in
    record {
      going = goes_moved (served_line inv.same c.requires.names.processes few inv.going some c.first_line.ensures.first found.0 room served.1) moves.0 moves.1 moves.2;
      same = c.in_ok-serve_next.ensures.system ∙ inv.same;
      goes_on = served.2;
      kept = c.in_ok-put_full_page.ensures.cause.kept ∙ inv.kept;
      counted = omega (arith, few);
      short = omega arith;
    }

pub loop-rest-preserved-in_ok-put_full_page-2 : goal.loop-rest-preserved-in_ok-put_full_page-2
loop-rest-preserved-in_ok-put_full_page-2 g c =
    let some : c.loop-rest.rest.now ≡ [] → ⊥ = search rules in
    let shorter = first_line_taken c.loop-rest.rest.now _ c.first_line.result.1.now some c.first_line.ensures.first in
    let found = line_found c.args.names.now.processes _ c.loop-rest.number c.in_ok-event.field-0 c.in-Some.event c.in-Some.is c.in_ok-event.ensures.event c.in_ok-event.ensures.within in
    let few = found.1 in
    let moves = c.in_ok-put_full_page.ensures.moves in
    let inv = c.loop-rest.invariant in
    let served = c.in_ok-serve_next.ensures.stops in
    let room = served.0.room in
    record {
      going = goes_moved (served_line inv.same c.requires.names.processes few inv.going some c.first_line.ensures.first found.0 room served.1) moves.0 moves.1 moves.2;
      same = c.in_ok-serve_next.ensures.system ∙ inv.same;
      goes_on = served.2;
      kept = c.in_ok-put_full_page.ensures.cause.kept ∙ inv.kept;
      counted = omega (arith, few);
      short = omega arith;
    }

pub loop-rest-preserved : goal.loop-rest-preserved
loop-rest-preserved g c =
    let some : c.loop-rest.rest.now ≡ [] → ⊥ = search rules in
    let shorter = first_line_taken c.loop-rest.rest.now _ c.first_line.result.1.now some c.first_line.ensures.first in
    let found = line_found c.args.names.now.processes _ c.loop-rest.number c.in_ok-event.field-0 c.in-Some.event c.in-Some.is c.in_ok-event.ensures.event c.in_ok-event.ensures.within in
    let few = found.1 in
    let moves = c.in_ok-put_full_page.ensures.moves in
    let inv = c.loop-rest.invariant in
    let served = c.in_ok-serve_next.ensures.stops in
    let room = served.0.room in
    record {
      going = goes_moved (served_line inv.same c.requires.names.processes few inv.going some c.first_line.ensures.first found.0 room served.1) moves.0 moves.1 moves.2;
      same = c.in_ok-serve_next.ensures.system ∙ inv.same;
      goes_on = served.2;
      kept = c.in_ok-put_full_page.ensures.cause.kept ∙ inv.kept;
      counted = omega (arith, few);
      short = omega arith;
    }

-- an error that is known
err_is : {T E : Type 0} (r : Result T E) (e : E) → IsErrAnd r (λ x. x ≡ e) → r ≡ Err e
err_is (Ok x) e h = absurd h
err_is (Err x) e h = ap Err h

pub returns-in_err-put_full_page-clause-plays : goal.returns-in_err-put_full_page-clause-plays
returns-in_err-put_full_page-clause-plays g c =
    let some : c.loop-rest.rest.now ≡ [] → ⊥ = search rules in
    let moves = c.in_err-put_full_page.ensures.moves in
    let inv = c.loop-rest.invariant in
    let m = semantics_of c.args.world.now.system in
    let served = c.in_ok-serve_next.ensures.stops in
    let room = served.0.room in
    let found = line_found c.args.names.now.processes _ c.loop-rest.number c.in_ok-event.field-0 c.in-Some.event c.in-Some.is c.in_ok-event.ensures.event c.in_ok-event.ensures.within in
    let progress = (served_line inv.same c.requires.names.processes found.1 inv.going some c.first_line.ensures.first found.0 room served.1).progress in
    let broken : Broken c.args.world.now.seed m c.args.world.now.course.state c.args.schedule.now (g.O.Sink.written c.args.out.now) (g.O.Sink.written c.put_full_page.new.out) =
    record {
      rest = _;
      number = _;
      last = _;
      middle = _;
      page = _;
      progress = progress;
      front = moves.0;
      behind = moves.1;
      cut = moves.2;
      told = moves.3;
    } in
    subst (λ r. Plays c.args.world.now.seed m c.args.world.now.course.state c.args.schedule.now (g.O.Sink.written c.args.out.now) r c.serve_next.new.world.course.state (g.O.Sink.written c.put_full_page.new.out) c.put_full_page.new.page.items)
    (sym (err_is c.from_residual-in_err-put_full_page.result stop.Failed c.from_residual-in_err-put_full_page.ensures.1)) broken

pub returns-in_err-serve_next-clause-plays : goal.returns-in_err-serve_next-clause-plays
returns-in_err-serve_next-clause-plays g c =
    let some : c.loop-rest.rest.now ≡ [] → ⊥ = search rules in
    let inv = c.loop-rest.invariant in
    let m = semantics_of c.args.world.now.system in
    let found = line_found c.args.names.now.processes _ c.loop-rest.number c.in_ok-event.field-0 c.in-Some.event c.in-Some.is c.in_ok-event.ensures.event c.in_ok-event.ensures.within in
    let next : IsNext (names_in m) c.loop-rest.rest.now c.loop-rest.number = record {
      some = some;
      line = _;
      behind = _;
      first = c.first_line.ensures.first;
      event = c.in-Some.event;
      is = subst (λ n. IsLineOf n c.first_line.result.0.now c.in-Some.event) c.requires.names.processes found.0;
      few = found.1;
    } in
    subst (λ r. Plays c.args.world.now.seed m c.args.world.now.course.state c.args.schedule.now (g.O.Sink.written c.args.out.now) r c.serve_next.new.world.course.state (g.O.Sink.written c.loop-rest.out) c.serve_next.new.page.items)
    (sym (err_is c.from_residual-in_err-serve_next.result c.in_err-serve_next.field-0.0 c.from_residual-in_err-serve_next.ensures.1)) (stopped c.loop-rest.world c.serve_next.new.world c.serve_next.new.page.items c.in-Some.event c.in_err-serve_next.field-0.0 next inv.going c.in_err-serve_next.ensures.stops)
