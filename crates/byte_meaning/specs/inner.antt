pub mod Held
pub mod Packing
