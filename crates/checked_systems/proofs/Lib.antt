pub mod Exprs
pub mod Open
pub mod Running
pub mod Systems
