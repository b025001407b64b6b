pub mod Fitting
pub mod Promises
pub mod Ranges
