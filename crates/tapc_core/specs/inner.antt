pub mod Closing
pub mod FileFaults
pub mod Making
pub mod Playing
pub mod Soaking
pub mod StartFaults
pub mod Verdicts
