pub mod Layouts
pub mod Names
pub mod RunsFrom
pub mod Served
pub mod inner
