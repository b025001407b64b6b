pub mod Acting
pub mod Drawn
