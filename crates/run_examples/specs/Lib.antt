pub mod WorkedFaults
pub mod WorkedRuns
pub mod WorkedSends
