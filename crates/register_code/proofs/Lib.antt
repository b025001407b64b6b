pub mod Kept
pub mod Nested
pub mod Passing
pub mod Remaining
pub mod Sums
