pub mod Acts
mod AllDrawn
pub mod Grown
pub mod SourcedOpen
pub mod Sources
pub mod Statements
pub mod Trees
