-- What `resolve` answers is whole.
use Rattle.std.proofs.Common.{◌≡◌, List, Result, Ok, Err, IfOk, ap, subst, ◌∙◌}
use Rattle.tap_base.specs.declared.ast.Ast.{Ast}
use Rattle.tap_base.specs.declared.ast.AstMessage.{AstMessage}
use Rattle.tap_base.specs.declared.ast.AstProcess.{AstProcess}
use Rattle.tap_base.specs.declared.system.System.{System}
use Rattle.tap_names.specs.Refusals.{Judges}
use Rattle.tap_names.specs.declared.fault.TypeFault.{TypeFault}
use Rattle.tap_types.proofs.whole.WholeTrees.{resolves_whole}
use Rattle.tap_types.specs.Given.{HasParts}
use Rattle.tap_types.specs.Offences.{offences_of}
use Rattle.tap_base.specs.Resolved.{IsResolved}
use Rattle.tap_types.specs.Systems.{system_of, tree_of}

judged_whole : (tree : Ast) (r : Result System TypeFault) → Judges (offences_of tree) (system_of tree) r → HasParts tree → IfOk r IsResolved
judged_whole tree (Ok system) h parts = resolves_whole tree system parts h.0 h.1
judged_whole tree (Err e) h parts = tt

-- the same of its parts
pub parts_whole : (tree : Ast) (ms : List AstMessage) (ps : List AstProcess) (r : Result System TypeFault) → ms ≡ tree.messages → ps ≡ tree.processes
    → Judges (offences_of (tree_of ms ps)) (system_of (tree_of ms ps)) r → HasParts tree → IfOk r IsResolved
parts_whole tree ms ps r of_messages of_processes h parts =
    let same : tree_of ms ps ≡ tree = ap (λ m. tree_of m ps) of_messages ∙ ap (λ p. tree_of tree.messages p) of_processes in
    judged_whole tree r (subst (λ t. Judges (offences_of t) (system_of t) r) same h) parts
