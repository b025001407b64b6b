pub mod Apart
pub mod Laws
pub mod Meaning
pub mod Messages
pub mod Reading
pub mod Spelling
pub mod Worked
pub mod inner
