pub mod Answering
pub mod Capped
pub mod Judging
pub mod Reading
