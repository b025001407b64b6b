pub mod Laws
pub mod Listed
pub mod Made
pub mod Schedule
pub mod Sending
pub mod Worked
