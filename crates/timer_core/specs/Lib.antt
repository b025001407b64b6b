pub mod Due
pub mod Timing
pub mod inner
