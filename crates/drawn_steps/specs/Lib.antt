pub mod Acting
pub mod Boxes
pub mod Drawing
pub mod Rooms
pub mod Sending
pub mod Timing
