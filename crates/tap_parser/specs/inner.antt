pub mod Forms
pub mod Keeping
pub mod Reading
pub mod Texts
