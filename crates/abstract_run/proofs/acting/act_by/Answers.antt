use Rattle.std.proofs.Common.{map, refl, ap, subst, sym, ◌∙◌}
use Rattle.tap_base.specs.Option.{◌>>=◌}
use Rattle.tap_exec.specs.Filling.{wire_fields}
use Rattle.tap_exec.specs.Semantics.{messages_of, semantics_of}
use Rattle.abstract_run.specs.inner.ByChoices.{Acts, acted_by, acted_in}
use Rattle.abstract_run.proofs.Idle.{has_channels}
use Rattle.abstract_run.proofs.acting.act_by.Goals as goal

pub act-requires : goal.act-requires
act-requires g c = has_channels (semantics_of c.args.system.now) c.args.state.now c.requires.fits c.requires.safe.begins.few

pub returns : goal.returns
returns g c =
    let messages = ap (λ ms. acted_by g.C.Choices.takes g.C.Choices.spent (map wire_fields ms) c.args.state.now c.args.process c.in-Some.action.now c.args.choices) c.as_slice-messages.ensures in
    let at = ap (λ o. o >>= λ action. acted_by g.C.Choices.takes g.C.Choices.spent (messages_of c.args.system.now) c.args.state.now c.args.process action c.args.choices) c.in-Some.ensures in
    subst (λ o. Acts o c.args.state.now c.act.result c.act.new.state) (messages ∙ at) c.act.ensures
