mod Away
mod Faults
pub mod Gathered
pub mod Goes
pub mod Listed
mod OneSchedule
mod Ranges
mod Sends
mod Words
