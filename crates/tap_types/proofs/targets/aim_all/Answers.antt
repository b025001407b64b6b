use Rattle.std.proofs.Common.{Some, Option}
use Rattle.std.specs.Prelude.{flat_map, Result}
use Rattle.tap_names.specs.declared.fault.TypeFault.{TypeFault}
use Rattle.tap_names.specs.declared.named.Kind.{Kind}
use Rattle.tap_types.specs.declared.targets.AimedAll.{AimedAll}
use Rattle.tap_base.specs.declared.ast.AstTarget.{AstTarget}
use Rattle.tap_base.specs.Option.{each}
use Rattle.tap_types.specs.Scopes.{named_in}
use Rattle.tap_types.specs.StmtOffences.{target_offences, kind_of_target, kinds_of}
use Rattle.tap_types.specs.Systems.{target_of}
use Rattle.tap_types.specs.inner.Typing.{AimsAll, scope_of}
use Rattle.tap_base.proofs.LoopFacts.{each_on, flat_on, map_on}
use Rattle.tap_names.proofs.Loops.{flat_fault, passed_on}
use Rattle.tap_types.proofs.targets.aim_all.Goals as goal

pub returns-in_err-aimed : goal.returns-in_err-aimed
returns-in_err-aimed c =
    let s = scope_of c.args.names.now in
    let xs = c.args.targets.now in
    let P : Result AimedAll TypeFault → Type 0 = λ r. AimsAll (flat_map (target_offences s) xs) (kinds_of s xs) (each (target_of s) xs) r in
    passed_on P (flat_map (target_offences s) xs) (λ d h. h) _ _ c.from_residual.ensures.1 (flat_fault (target_offences s) xs c.targets.target-index c.target-item.result c.targets-test.true c.target-item.is _ c.in_err-aimed.ensures c.targets.invariant.clear)

pub targets-preserved : goal.targets-preserved
targets-preserved c =
    let s = scope_of c.args.names.now in
    let xs = c.args.targets.now in
    let i = c.targets.target-index in
    let x = c.target-item.result in
    let l = c.targets-test.true in
    let q = c.target-item.is in
    let K : AstTarget → Option Kind = λ t. kind_of_target (named_in s t.name.text) in
    let S : Kind → Option Kind = λ k. Some k in
    record {
      clear = flat_on (target_offences s) xs i x l q c.in_ok-aimed.ensures.0 c.targets.invariant.clear;
      kinds = map_on K xs i x l q S c.in_ok-aimed.aimed.kind c.targets.kinds _ c.in_ok-push-2.ensures.ok c.in_ok-aimed.ensures.1 c.targets.invariant.kinds;
      named = each_on (target_of s) xs i x l q c.in_ok-aimed.aimed.target c.targets.found _ c.in_ok-push.ensures.ok c.in_ok-aimed.ensures.3 c.targets.invariant.named;
    }
