pub mod Grammar
pub mod Laws
pub mod Stages
pub mod Traces
pub mod inner
