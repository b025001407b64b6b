pub mod Counted
pub mod Soaked
pub mod inner
