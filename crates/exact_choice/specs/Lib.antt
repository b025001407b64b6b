pub mod Acting
pub mod Choice
pub mod Draws
pub mod Moments
pub mod Rejects
pub mod Runnable
pub mod Worked
pub mod WorkedRejects
