pub mod ExprText
pub mod Grammar
pub mod Nodes
pub mod WorkedGrammar
pub mod inner
