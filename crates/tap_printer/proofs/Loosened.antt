-- An expression of a level is one of every looser level.
use Rattle.std.proofs.Common.{◌≡◌, false, nat_lt, List}
use Rattle.tap_base.specs.declared.ast.AstExpr.{AstExpr}
use Rattle.tap_base.specs.declared.join.Join.TheVariants.{Disjunction, Conjunction, Sum, Term}
use Rattle.tap_lexer.specs.Lexeme.{Lexeme}
use Rattle.tap_expr.specs.Grammar.{Level, joined, negation, relation, factor, atom, Reads, done, chain, plain, single, positive}
use Rattle.tap_printer.specs.CanonicalExprs.{tightness}

pub loosened : (l m : Level) {e : AstExpr} {ts us : List Lexeme} → nat_lt (tightness m) (tightness l) ≡ false → Reads m e ts us → Reads l e ts us
loosened (joined Disjunction) (joined Disjunction) h r = r
loosened (joined Disjunction) (joined Conjunction) h r = chain r done
loosened (joined Disjunction) negation h r = chain (chain r done) done
loosened (joined Disjunction) relation h r = chain (chain (plain r) done) done
loosened (joined Disjunction) (joined Sum) h r = chain (chain (plain (single r)) done) done
loosened (joined Disjunction) (joined Term) h r = chain (chain (plain (single (chain r done))) done) done
loosened (joined Disjunction) factor h r = chain (chain (plain (single (chain (chain r done) done))) done) done
loosened (joined Disjunction) atom h r = chain (chain (plain (single (chain (chain (positive r) done) done))) done) done
loosened (joined Conjunction) (joined Disjunction) h r = absurd cc
loosened (joined Conjunction) (joined Conjunction) h r = r
loosened (joined Conjunction) negation h r = chain r done
loosened (joined Conjunction) relation h r = chain (plain r) done
loosened (joined Conjunction) (joined Sum) h r = chain (plain (single r)) done
loosened (joined Conjunction) (joined Term) h r = chain (plain (single (chain r done))) done
loosened (joined Conjunction) factor h r = chain (plain (single (chain (chain r done) done))) done
loosened (joined Conjunction) atom h r = chain (plain (single (chain (chain (positive r) done) done))) done
loosened negation (joined Disjunction) h r = absurd cc
loosened negation (joined Conjunction) h r = absurd cc
loosened negation negation h r = r
loosened negation relation h r = plain r
loosened negation (joined Sum) h r = plain (single r)
loosened negation (joined Term) h r = plain (single (chain r done))
loosened negation factor h r = plain (single (chain (chain r done) done))
loosened negation atom h r = plain (single (chain (chain (positive r) done) done))
loosened relation (joined Disjunction) h r = absurd cc
loosened relation (joined Conjunction) h r = absurd cc
loosened relation negation h r = absurd cc
loosened relation relation h r = r
loosened relation (joined Sum) h r = single r
loosened relation (joined Term) h r = single (chain r done)
loosened relation factor h r = single (chain (chain r done) done)
loosened relation atom h r = single (chain (chain (positive r) done) done)
loosened (joined Sum) (joined Disjunction) h r = absurd cc
loosened (joined Sum) (joined Conjunction) h r = absurd cc
loosened (joined Sum) negation h r = absurd cc
loosened (joined Sum) relation h r = absurd cc
loosened (joined Sum) (joined Sum) h r = r
loosened (joined Sum) (joined Term) h r = chain r done
loosened (joined Sum) factor h r = chain (chain r done) done
loosened (joined Sum) atom h r = chain (chain (positive r) done) done
loosened (joined Term) (joined Disjunction) h r = absurd cc
loosened (joined Term) (joined Conjunction) h r = absurd cc
loosened (joined Term) negation h r = absurd cc
loosened (joined Term) relation h r = absurd cc
loosened (joined Term) (joined Sum) h r = absurd cc
loosened (joined Term) (joined Term) h r = r
loosened (joined Term) factor h r = chain r done
loosened (joined Term) atom h r = chain (positive r) done
loosened factor (joined Disjunction) h r = absurd cc
loosened factor (joined Conjunction) h r = absurd cc
loosened factor negation h r = absurd cc
loosened factor relation h r = absurd cc
loosened factor (joined Sum) h r = absurd cc
loosened factor (joined Term) h r = absurd cc
loosened factor factor h r = r
loosened factor atom h r = positive r
loosened atom (joined Disjunction) h r = absurd cc
loosened atom (joined Conjunction) h r = absurd cc
loosened atom negation h r = absurd cc
loosened atom relation h r = absurd cc
loosened atom (joined Sum) h r = absurd cc
loosened atom (joined Term) h r = absurd cc
loosened atom factor h r = absurd cc
loosened atom atom h r = r
