pub mod DelaysKept
mod Known
mod KnownSteps
pub mod Prefixes
mod Since
pub mod TimedSteps
pub mod Undue
