pub mod Bodies
pub mod Coming
pub mod Inputs
pub mod Made
pub mod Placing
