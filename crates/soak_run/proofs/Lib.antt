pub mod Bounds
pub mod MoreCounted
pub mod NextEvents
pub mod RunSoFar
