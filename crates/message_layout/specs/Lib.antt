pub mod Clashes
pub mod Lengths
pub mod Faults
pub mod Wires
pub mod inner
