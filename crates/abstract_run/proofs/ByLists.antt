-- An action with a list of choices is that of a label.
use Rattle.std.proofs.Common.{◌≡◌, ◌&&◌, ℕ, ℤ, Bool, true, false, List, refl, ap, sym, ◌∙◌, if◌then◌else◌, Option, Some, None}
use Rattle.std.specs.Option.{option_map}
use Rattle.std.specs.Prelude.{Result, Ok, Err}
use Rattle.tap_base.specs.declared.system.Action.{Action}
use Rattle.tap_base.specs.declared.system.System.{System}
use Rattle.tap_base.specs.declared.wire.WireField.{WireField}
use Rattle.tap_base.specs.Option.{◌>>=◌}
use Rattle.tap_exec.specs.Execution.{is_empty, takes}
use Rattle.tap_exec.specs.Running.{Running}
use Rattle.tap_exec.specs.Semantics.{GuardSemantics, messages_of}
use Rattle.abstract_run.specs.declared.state.State.{State}
use Rattle.abstract_run.specs.Enabled.{is_ready}
use Rattle.abstract_run.specs.inner.ByChoices.{acted_by, acted_in, performed_by, stands_at}
use Rattle.abstract_run.specs.inner.ComputedSemantics.{computed_action, computed_guard, computed_semantics}
use Rattle.abstract_run.specs.Step.{After, acted, body_run, finished, is_live, performed}
use Rattle.abstract_run.proofs.Acted.{acted_at}
use Rattle.abstract_run.proofs.InSystem.{acted_nowhere, acted_some}

abbrev Left : Type 0
Left = After × List ℤ

abbrev without : Option Left → Option After
without o = option_map (λ x. x.0) o

by_body : (s : State) (p : ℕ) (g : GuardSemantics) (o : Option Running) → (o >>= finished s p g) ≡ without (o >>= λ r. finished s p g r >>= λ after. let left : Left = (after, r.choices) in Some left)
by_body s p g None = refl
by_body s p g (Some r) = by_end (finished s p g r) where
  by_end : (o : Option After) → o ≡ without (o >>= λ after. let left : Left = (after, r.choices) in Some left)
  by_end None = refl
  by_end (Some after) = refl

performed_same : (messages : List (List WireField)) (s : State) (p : ℕ) (action : Action) (choices : List ℤ)
    → performed s p (computed_action messages action) choices ≡ without (performed_by takes is_empty messages s p action choices)
performed_same messages s p action choices = by_body s p (computed_guard action.guard) (body_run s p (computed_action messages action) choices)

acted_same : (messages : List (List WireField)) (s : State) (p : ℕ) (action : Action) (choices : List ℤ)
    → acted_at s p (computed_action messages action) choices ≡ without (acted_by takes is_empty messages s p action choices)
acted_same messages s p action choices = by_test (is_live s p && is_ready s p (computed_action messages action)) where
  by_test : (b : Bool) → (if b then performed s p (computed_action messages action) choices else None) ≡ without (if b then performed_by takes is_empty messages s p action choices else None)
  by_test true = performed_same messages s p action choices
  by_test false = refl

pub in_system : (system : System) (s : State) (p a : ℕ) (choices : List ℤ) → acted (computed_semantics system) s p a choices ≡ without (acted_in takes is_empty system s p a choices)
in_system system s p a choices = by_place (stands_at system p a) refl where
  by_place : (o : Option Action) → stands_at system p a ≡ o → acted (computed_semantics system) s p a choices ≡ without (o >>= λ action. acted_by takes is_empty (messages_of system) s p action choices)
  by_place None is = acted_nowhere system s p a choices is
  by_place (Some action) is = sym (acted_some system s p a action choices is) ∙ acted_same (messages_of system) s p action choices
