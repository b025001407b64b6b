pub mod Order
pub mod Using
