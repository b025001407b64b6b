mod Booleans
mod Faults
mod Fit
pub mod Given
mod GivenOne
mod IntegerTexts
mod Loops
mod Sound
mod SpotFacts
mod TableFacts
pub mod Texts
