pub mod Guards
pub mod Judged
pub mod Kept
pub mod Moved
pub mod Ready
