pub mod Finds
pub mod Puts
