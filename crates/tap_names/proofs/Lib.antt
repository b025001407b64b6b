pub mod AllOf
pub mod Faults
pub mod Inner
pub mod Loops
pub mod Spaces
pub mod Tables
pub mod Vars
pub mod Worked
