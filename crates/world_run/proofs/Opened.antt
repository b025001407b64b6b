-- A world in its opening state is steady.
use Rattle.std.proofs.Common.{◌≡◌, ◌∙◌, ℕ, List, length, ap, sym, subst}
use Rattle.tap_base.specs.declared.system.Inputs.{Inputs}
use Rattle.tap_exec.specs.Semantics.{Semantics}
use Rattle.abstract_run.specs.CellCount.{cells_in}
use Rattle.abstract_run.specs.Fits.{Fits}
use Rattle.abstract_run.specs.Opening.{opening_state}
use Rattle.abstract_run.specs.declared.state.State.{State}
use Rattle.guard_scheduler.specs.Cursor.{Cursor}
use Rattle.rand_pcg.specs.Lcg.{Lcg}
use Rattle.exact_choice.specs.Choice.{AreCursorsOf, opening_cursors}
use Rattle.exact_choice.specs.Draws.{opening_generators}
use Rattle.exact_choice.specs.Rejects.{AreErrorsOf, opening_errors}
use Rattle.exact_choice.proofs.Cursors.{cursors_opened}
use Rattle.exact_choice.proofs.Drawn.{generators_opened}
use Rattle.exact_choice.proofs.RejectsKept.{errors_opened}
use Rattle.world_run.specs.Served.{IsSteady}
use Rattle.world_run.specs.declared.course.Course.{Course}

pub opened_steady : (m : Semantics) (inputs : Inputs) (seed : ℕ) (course : Course) → course.state ≡ opening_state m inputs → Fits m course.state → cells_in course.state ≡ 0
    → course.turnstiles ≡ opening_cursors m → course.generators ≡ opening_generators seed m → course.errors ≡ opening_errors m → course.cells ≡ 0 → IsSteady m course
opened_steady m inputs seed course state fits none cursors generators errors cells = record {
  whole = record {
    fits = fits;
    cursors = subst (λ (cs : List Cursor). AreCursorsOf m cs) (sym cursors) (cursors_opened m);
    generators = ap (λ (gs : List Lcg). length gs) generators ∙ generators_opened seed m;
    errors = subst (λ (s : State). AreErrorsOf m s course.errors) (sym state) (subst (λ (es : List (List ℕ)). AreErrorsOf m (opening_state m inputs) es) (sym errors) (errors_opened m inputs));
    cells = cells ∙ sym none;
  };
  settled = ap (λ (s : State). s.falling) state;
}
