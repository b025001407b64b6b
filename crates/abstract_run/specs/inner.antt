pub mod Among
pub mod ByChoices
pub mod ComputedSemantics
pub mod Does
