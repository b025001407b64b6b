pub mod Checking
pub mod Cost
pub mod ExprOffences
pub mod IsChecked
pub mod Offences
pub mod StmtOffences
pub mod inner
pub mod Worked
