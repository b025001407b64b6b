-- Folds over statements at their constructors.
use Rattle.std.proofs.Common.{◌≡◌, ℕ, rules, Bool, List}
use Rattle.tap_base.specs.declared.ast.AstExpr.{AstExpr}
use Rattle.tap_base.specs.declared.ast.AstStmt.{the_lemmas}
use Rattle.tap_base.specs.declared.ast.AstStmt.TheVariants as stmt
use Rattle.tap_base.specs.declared.ast.Ident.{Ident}
use Rattle.tap_types.specs.Scopes.{Scope}
use Rattle.tap_types.specs.SendOffences.{unreceived, unreceived_in}
use Rattle.tap_types.specs.StmtOffences.{send_offences, stmt_offences}
use Rattle.tap_types.specs.Systems.{send_of, stmt_of}

pub send_judged : (c : Scope) (m q : Ident) (values : List AstExpr) → stmt_offences c (stmt.Send m values q) ≡ send_offences c m values q
send_judged c m q values = search (rules, the_lemmas)

pub send_named : (c : Scope) (m q : Ident) (values : List AstExpr) → stmt_of c (stmt.Send m values q) ≡ send_of c m values q
send_named c m q values = search (rules, the_lemmas)

pub send_unreceived : (received : List ℕ → List ℕ → Bool) (m q : Ident) (values : List AstExpr) → unreceived_in received (stmt.Send m values q) ≡ unreceived received m q
send_unreceived received m q values = search (rules, the_lemmas)
