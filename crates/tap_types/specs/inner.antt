pub mod Listed
pub mod Receiving
pub mod Typing
