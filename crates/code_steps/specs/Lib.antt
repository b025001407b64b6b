pub mod Guarding
pub mod Holding
pub mod Moving
