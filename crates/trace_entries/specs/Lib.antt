pub mod BothWays
pub mod Entries
pub mod LineNames
pub mod Tails
pub mod inner
