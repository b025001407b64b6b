pub mod Acted
pub mod CanAct
pub mod Ones
pub mod Rising
pub mod Roomy
pub mod SentOut
pub mod Taken
pub mod Timed
