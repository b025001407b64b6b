pub mod Arrivals
pub mod Kept
pub mod Rivals
