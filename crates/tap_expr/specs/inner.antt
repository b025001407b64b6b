pub mod ExprNodes
pub mod ExprReading
pub mod ExprSigns
pub mod Exprs
