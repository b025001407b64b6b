pub mod Acceptance
pub mod Accepting
pub mod Laws
pub mod Layouts
pub mod Lines
pub mod Offences
pub mod inner
