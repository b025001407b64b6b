use Rattle.std.proofs.Common.{◌≡◌, sym, ◌∙◌, ap, List, [], Option, Some, ◌++◌}
use Rattle.std.specs.Option.{option_and_then}
use Rattle.tap_base.specs.declared.system.Action.{Action}
use Rattle.tap_base.specs.declared.system.Guard.{Guard}
use Rattle.tap_base.specs.declared.tree.Stmt.{Stmt}
use Rattle.tap_types.specs.ActionOffences.{after_guard}
use Rattle.tap_types.specs.StmtOffences.{body_offences}
use Rattle.tap_types.specs.Systems.{body_of}
use Rattle.tap_types.specs.inner.Typing.{scope_of}
use Rattle.tap_types.proofs.actions.type_action.Goals as goal

pub returns : goal.returns
returns c =
    let s = scope_of c.args.names.now in
    let a = c.args.action.now in
    let e = c.names_behind-behind.ensures.scope in
    let os : body_offences (after_guard s a.guard) a.body ≡ [] = sym (ap (λ z. body_offences z a.body) e) ∙ sym (ap (body_offences (scope_of c.names_behind-behind.result)) c.as_slice.ensures) ∙ c.in_ok-body.ensures.0 in
    let ns : body_of (after_guard s a.guard) a.body ≡ Some c.in_ok-body.body = sym (ap (λ z. body_of z a.body) e) ∙ sym (ap (body_of (scope_of c.names_behind-behind.result)) c.as_slice.ensures) ∙ c.in_ok-body.ensures.1 in
    let K : Guard → List Stmt → Option Action = λ g b. Some (record { guard = g; body = b; place = a.place }) in (
      ap (λ z. z ++ body_offences (after_guard s a.guard) a.body) c.in_ok-guard.ensures.0 ∙ os,
      ap (λ (o : Option Guard). option_and_then (λ g. option_and_then (λ b. K g b) (body_of (after_guard s a.guard) a.body)) o) c.in_ok-guard.ensures.1
          ∙ ap (λ (o : Option (List Stmt)). option_and_then (λ b. K c.in_ok-guard.guard b) o) ns,
    )
