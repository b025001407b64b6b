pub mod DeclaredNames
pub mod Faults
