use Rattle.std.proofs.Common.{◌≡◌, ◌++◌, drop, map}
use Rattle.std.specs.Option.{option_map}
use Rattle.tap_base.specs.ListWords.{joined}
use Rattle.tap_types.specs.StmtOffences.{body_offences, branch_offences}
use Rattle.tap_types.specs.Systems.{body_of, branch_of}
use Rattle.tap_base.specs.ListWords.{some_of}
use Rattle.tap_types.specs.inner.Typing.{scope_of}
use Rattle.tap_types.proofs.stmts.+type_stmt.Given as goal

abbrev pub invariant-type_body-body : goal.invariant-type_body-body
invariant-type_body-body l = record {
  clear : body_offences (scope_of l.names) (drop l.stmt-index l.body) ≡ body_offences (scope_of l.names) l.body;
  named : option_map (λ rest. l.found ++ rest) (body_of (scope_of l.names) (drop l.stmt-index l.body)) ≡ body_of (scope_of l.names) l.body;
}

abbrev pub invariant-type_branches-branches : goal.invariant-type_branches-branches
invariant-type_branches-branches l = record {
  clear : joined (map (branch_offences (scope_of l.names)) (drop l.branch-index l.branches)) ≡ joined (map (branch_offences (scope_of l.names)) l.branches);
  named : option_map (λ rest. l.found ++ rest) (some_of (map (branch_of (scope_of l.names)) (drop l.branch-index l.branches))) ≡ some_of (map (branch_of (scope_of l.names)) l.branches);
}
