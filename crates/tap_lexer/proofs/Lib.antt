mod Digits
pub mod InARow
pub mod One
pub mod Pieces
mod Places
mod Reading
pub mod Shapes
pub mod Spans
mod Spelled
mod Standing
pub mod Tables
pub mod TokenPlaces
