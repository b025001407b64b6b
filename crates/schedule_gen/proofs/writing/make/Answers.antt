use Rattle.std.proofs.Common.{◌≡◌, ◌+◌, ◌≤◌, refl, ap, sym, subst, ◌∙◌, Result, Ok, Err, arith}
use Rattle.std.specs.Result.{IsErrAnd}
use Rattle.tap_exec.specs.Semantics.{semantics_of}
use Rattle.run_text.specs.TraceText.{names_in}
use Rattle.schedule_gen.specs.Made.{HasMakeCause, Makes}
use Rattle.schedule_gen.specs.Schedule as spec
use Rattle.schedule_gen.specs.declared.fault.MakeFault.TheVariants as fault
use Rattle.schedule_gen.proofs.Gathered.{Gathered, all_put, front_put, none_gathered, none_put, one_gathered, page_put, some_put}
use Rattle.schedule_gen.proofs.writing.make.Goals as goal

-- an error that is known
err_is : {T E : Type 0} (r : Result T E) (e : E) → IsErrAnd r (λ x. x ≡ e) → r ≡ Err e
err_is (Ok x) e h = absurd h
err_is (Err x) e h = ap Err h

pub returns-in_err-names-clause-makes : goal.returns-in_err-names-clause-makes
returns-in_err-names-clause-makes g c =
    subst (λ r. Makes c.args.system.now c.args.seed c.args.events c.args.faults (g.O.Sink.written c.args.out.now) r (g.O.Sink.written c.args.out.now))
    (sym (err_is c.from_residual.result fault.NoMemory c.from_residual.ensures.1))
    (none_put (names_in (semantics_of c.args.system.now)) (spec.opening c.args.system.now c.args.seed c.args.faults) c.args.events (g.O.Sink.written c.args.out.now))

pub returns-in_err-generator-clause-makes : goal.returns-in_err-generator-clause-makes
returns-in_err-generator-clause-makes g c =
    subst (λ r. Makes c.args.system.now c.args.seed c.args.events c.args.faults (g.O.Sink.written c.args.out.now) r (g.O.Sink.written c.args.out.now))
    (sym (err_is c.from_residual-in_err-generator.result fault.NoMemory c.from_residual-in_err-generator.ensures.1))
    (none_put (names_in (semantics_of c.args.system.now)) (spec.opening c.args.system.now c.args.seed c.args.faults) c.args.events (g.O.Sink.written c.args.out.now))

pub loop-i-init : goal.loop-i-init
loop-i-init g c =
    let m = spec.opening c.args.system.now c.args.seed c.args.faults in
    let before = g.O.Sink.written c.args.out.now in
    let none = none_gathered c.in_ok-names.names.processes m before in
    record {
      going = subst (λ x. Gathered c.in_ok-names.names.processes m 0 x before before c.new-2.result.items) (sym c.in_ok-generator.ensures) (subst (λ p. Gathered c.in_ok-names.names.processes m 0 m before before p) (sym c.new-2.ensures.items) none);
      kept = refl;
      soon = let e = ap (λ (x : spec.Making). x.time) c.in_ok-generator.ensures in omega (arith, e);
    }

pub returns-in_err-write_next-clause-makes : goal.returns-in_err-write_next-clause-makes
returns-in_err-write_next-clause-makes g c =
    let m = spec.opening c.args.system.now c.args.seed c.args.faults in
    let before = g.O.Sink.written c.args.out.now in
    let few : c.loop-i._i ≤ c.args.events = omega arith in
    let going = subst (λ ns. Gathered ns m c.loop-i._i c.loop-i.generator before (g.O.Sink.written c.loop-i.out) c.loop-i.page) c.in_ok-names.ensures.processes c.loop-i.invariant.going in
    subst (λ r. Makes c.args.system.now c.args.seed c.args.events c.args.faults before r (g.O.Sink.written c.loop-i.out))
    (sym (err_is c.from_residual-in_err-write_next.result fault.NoMemory c.from_residual-in_err-write_next.ensures.1))
    (some_put (names_in (semantics_of c.args.system.now)) m c.loop-i.generator c.loop-i._i c.args.events before (g.O.Sink.written c.loop-i.out) c.loop-i.page few going)

pub returns-in_err-put_full_page-clause-makes : goal.returns-in_err-put_full_page-clause-makes
returns-in_err-put_full_page-clause-makes g c =
    let m = spec.opening c.args.system.now c.args.seed c.args.faults in
    let before = g.O.Sink.written c.args.out.now in
    let now = g.O.Sink.written c.loop-i.out in
    let few : c.loop-i._i + 1 ≤ c.args.events = omega arith in
    let longer = one_gathered c.in_ok-names.names.processes m c.loop-i.generator c.write_next.new.generator c.loop-i._i before now c.loop-i.page c.write_next.new.page (spec.next_event c.loop-i.generator) c.loop-i.invariant.going
    refl c.in_ok-write_next.ensures.rest c.in_ok-write_next.ensures.line in
    let going = subst (λ ns. Gathered ns m (c.loop-i._i + 1) c.write_next.new.generator before now c.write_next.new.page) c.in_ok-names.ensures.processes longer in
    let puts = c.in_err-put_full_page.ensures.puts in
    subst (λ r. Makes c.args.system.now c.args.seed c.args.events c.args.faults before r (g.O.Sink.written c.put_full_page.new.out))
    (sym (err_is c.from_residual-in_err-put_full_page.result fault.WriteFault c.from_residual-in_err-put_full_page.ensures.1))
    (front_put (names_in (semantics_of c.args.system.now)) m c.write_next.new.generator (c.loop-i._i + 1) c.args.events before now (g.O.Sink.written c.put_full_page.new.out) c.write_next.new.page puts.0 puts.1 few going puts.2 puts.3)

pub returns-in_err-put_full_page-clause-cause : goal.returns-in_err-put_full_page-clause-cause
returns-in_err-put_full_page-clause-cause g c =
    let cause = c.in_err-put_full_page.ensures.cause in
    subst (λ r. HasMakeCause (g.O.Sink.faults c.args.out.now) (g.O.Sink.faults c.put_full_page.new.out) r)
    (sym (err_is c.from_residual-in_err-put_full_page.result fault.WriteFault c.from_residual-in_err-put_full_page.ensures.1))
    (subst (λ n. HasMakeCause n (g.O.Sink.faults c.put_full_page.new.out) (Err fault.WriteFault)) c.loop-i.invariant.kept (cause.later, cause.failed))

pub loop-i-preserved : goal.loop-i-preserved
loop-i-preserved g c =
    let m = spec.opening c.args.system.now c.args.seed c.args.faults in
    let before = g.O.Sink.written c.args.out.now in
    let now = g.O.Sink.written c.loop-i.out in
    let later = c.in_ok-write_next.ensures.later in
    let soon = c.loop-i.invariant.soon in
    let longer = one_gathered c.in_ok-names.names.processes m c.loop-i.generator c.write_next.new.generator c.loop-i._i before now c.loop-i.page c.write_next.new.page (spec.next_event c.loop-i.generator) c.loop-i.invariant.going
    refl c.in_ok-write_next.ensures.rest c.in_ok-write_next.ensures.line in
    record {
      going = page_put c.in_ok-names.names.processes m c.write_next.new.generator (c.loop-i._i + 1) before now (g.O.Sink.written c.put_full_page.new.out) c.write_next.new.page c.put_full_page.new.page longer c.in_ok-put_full_page.ensures.puts;
      kept = c.in_ok-put_full_page.ensures.cause.kept ∙ c.loop-i.invariant.kept;
      soon = omega (arith, later, soon);
    }

pub returns-in_err-put_page-clause-makes : goal.returns-in_err-put_page-clause-makes
returns-in_err-put_page-clause-makes g c =
    let m = spec.opening c.args.system.now c.args.seed c.args.faults in
    let before = g.O.Sink.written c.args.out.now in
    let now = g.O.Sink.written c.loop-i.out in
    let few : c.loop-i._i ≤ c.args.events = omega arith in
    let going = subst (λ ns. Gathered ns m c.loop-i._i c.loop-i.generator before now c.loop-i.page) c.in_ok-names.ensures.processes c.loop-i.invariant.going in
    let puts = c.in_err-put_page.ensures.puts in
    subst (λ r. Makes c.args.system.now c.args.seed c.args.events c.args.faults before r (g.O.Sink.written c.put_page.new.out))
    (sym (err_is c.from_residual-in_err-put_page.result fault.WriteFault c.from_residual-in_err-put_page.ensures.1))
    (front_put (names_in (semantics_of c.args.system.now)) m c.loop-i.generator c.loop-i._i c.args.events before now (g.O.Sink.written c.put_page.new.out) c.loop-i.page puts.0 puts.1 few going puts.2 puts.3)

pub returns-clause-makes : goal.returns-clause-makes
returns-clause-makes g c =
    let m = spec.opening c.args.system.now c.args.seed c.args.faults in
    let before = g.O.Sink.written c.args.out.now in
    let now = g.O.Sink.written c.loop-i.out in
    let all : c.loop-i._i ≡ c.args.events = omega arith in
    let going = subst (λ ns. Gathered ns m c.loop-i._i c.loop-i.generator before now c.loop-i.page) c.in_ok-names.ensures.processes c.loop-i.invariant.going in
    let whole = all_put (names_in (semantics_of c.args.system.now)) m c.loop-i.generator c.loop-i._i before now (g.O.Sink.written c.put_page.new.out) c.loop-i.page going c.in_ok-put_page.ensures.puts.0 in
    subst (λ k. Makes c.args.system.now c.args.seed k c.args.faults before (Ok tt) (g.O.Sink.written c.put_page.new.out)) all whole
