mod LeftActions
mod LeftExprs
mod LeftLists
pub mod Mislaid
pub mod Named
mod NamesAreWords
pub mod OneLayout
pub mod OneOffence
pub mod ResolvedWires
pub mod Runs
mod TokenWords
pub mod TreesRead
pub mod VarNames
pub mod Wholes
mod given
