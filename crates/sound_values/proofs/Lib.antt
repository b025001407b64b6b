pub mod Corners
pub mod ExprOpen
pub mod FieldValues
pub mod Operations
pub mod Remainders
pub mod Values
