-- That the names which a tree declares are words.
use Rattle.tap_base.specs.Lists.{Each}
use Rattle.tap_base.specs.LineWords.{IsWord}
use Rattle.tap_base.specs.declared.ast.Ast.{Ast}
use Rattle.tap_base.specs.declared.ast.AstMessage.{AstMessage}
use Rattle.tap_base.specs.declared.ast.AstProcess.{AstProcess}

-- the names of a message and of its fields
pub record MessageWords (m : AstMessage) : Type 0 where
  pub name : IsWord m.name.text
  pub fields : Each (λ f. IsWord f.name.text) m.fields

-- the names of a process, and of its constants, inputs, variables and timers
pub record ProcessWords (p : AstProcess) : Type 0 where
  pub name : IsWord p.name.text
  pub consts : Each (λ c. IsWord c.name.text) p.consts
  pub inputs : Each (λ v. IsWord v.name.text) p.inputs
  pub vars : Each (λ v. IsWord v.name.text) p.vars
  pub timers : Each (λ t. IsWord t.text) p.timers

-- all names that a tree declares
pub record AreWords (tree : Ast) : Type 0 where
  pub messages : Each MessageWords tree.messages
  pub processes : Each ProcessWords tree.processes
