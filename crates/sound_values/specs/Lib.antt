pub mod Fields
pub mod Indexes
pub mod Sound
