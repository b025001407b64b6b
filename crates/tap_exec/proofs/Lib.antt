pub mod Alternatives
pub mod Fronts
pub mod Quiet
pub mod StmtInduction
pub mod StmtOpen
