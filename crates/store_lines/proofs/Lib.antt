pub mod FirstLines
pub mod Given
pub mod Moved
pub mod ReadOn
