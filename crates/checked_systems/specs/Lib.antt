pub mod CheckedIsSound
pub mod CheckedRuns
