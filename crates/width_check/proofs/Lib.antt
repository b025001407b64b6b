pub mod Cheap
pub mod FieldFacts
pub mod Firsts
pub mod Passing
pub mod WidthFacts
