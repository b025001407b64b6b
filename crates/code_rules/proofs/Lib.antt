pub mod Fields
pub mod JumpFacts
pub mod NestFacts
pub mod OthersCounted
pub mod SameRules
pub mod Shared
