pub mod Bodies
pub mod GoOn
pub mod Judged
