pub mod EntriesHeld
pub mod FrontGiven
