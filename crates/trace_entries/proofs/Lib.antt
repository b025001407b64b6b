pub mod EntryBack
pub mod EntryLines
pub mod TailFacts
pub mod Vars
