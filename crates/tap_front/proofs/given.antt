mod FitDeclarations
mod FitExprs
mod FitStmts
mod FitTokens
pub mod GivenTrees
