pub mod Drawn
pub mod MoreDrawn
pub mod OneDrawn
mod WorkedDraws
pub mod Words
