pub mod Declarations
pub mod Statements
pub mod Systems
pub mod inner
