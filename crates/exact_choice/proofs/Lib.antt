pub mod Chosen
pub mod Cursors
pub mod Drawn
pub mod Joined
pub mod RejectsActs
pub mod RejectsCells
pub mod RejectsChannels
pub mod RejectsGoOn
pub mod RejectsJoined
pub mod RejectsKept
mod RejectsWorked
mod Rounds
