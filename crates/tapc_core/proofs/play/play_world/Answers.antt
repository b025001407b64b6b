use Rattle.std.proofs.Common.{subst}
use Rattle.abstract_run.specs.Fits.{Fits}
use Rattle.tap_exec.specs.Semantics.{semantics_of}
use Rattle.tapc_core.proofs.Outputs.{bad_closes, broken_from, broken_output, closes_played, full_closes, on_page, progress_from, trace_closes, unfinished_closes}
use Rattle.tapc_core.proofs.play.play_world.Goals as goal

pub returns-in-Ok-clause-writes : goal.returns-in-Ok-clause-writes
returns-in-Ok-clause-writes g c = λ task inputs begins of.
    let fits = subst (Fits (semantics_of c.args.world.now.system)) begins c.requires.fresh.goes_on.steady.whole.fits in
    trace_closes task c.play_lines.ensures.system c.requires.fresh.goes_on.runnable fits of (progress_from begins (on_page c.as_slice.ensures.value c.in-Ok.ensures.plays.1)) c.close_trace.ensures.closes

pub returns-in-Err-BadLine-clause-writes : goal.returns-in-Err-BadLine-clause-writes
returns-in-Err-BadLine-clause-writes g c = λ task inputs begins of.
    let h = rw c.in-Err-BadLine.field-0-is at c.in-Err-BadLine.ensures.plays in
    bad_closes task of h.1 h.2 (progress_from begins (on_page c.as_slice-in-Err-BadLine.ensures.value h.3)) c.close_bad.ensures.closes

pub returns-in-Err-Full-clause-writes : goal.returns-in-Err-Full-clause-writes
returns-in-Err-Full-clause-writes g c = λ task inputs begins of.
    let h = rw c.in-Err-Full.field-0-is at c.in-Err-Full.ensures.plays in
    full_closes task of h.2 h.3 h.4 (progress_from begins (on_page c.as_slice-in-Err-Full.ensures.value h.5)) c.close_full.ensures.closes

pub returns-in-Err-NoMemory-clause-writes : goal.returns-in-Err-NoMemory-clause-writes
returns-in-Err-NoMemory-clause-writes g c = λ task inputs begins of.
    let h = rw c.in-Err-NoMemory.field-0-is at c.in-Err-NoMemory.ensures.plays in
    unfinished_closes task of (progress_from begins (on_page c.as_slice-in-Err-NoMemory.ensures.value h.3)) c.close_behind.ensures.closes

pub returns-in-Err-NoMemory-clause-answer : goal.returns-in-Err-NoMemory-clause-answer
returns-in-Err-NoMemory-clause-answer g c = closes_played tt c.close_behind.ensures.closes

pub returns-clause-writes : goal.returns-clause-writes
returns-clause-writes g c = λ task inputs begins of.
    let h = rw c.in-Err-Failed.field-0-is at c.in-Err-Failed.ensures.plays in broken_output of (broken_from begins h)
