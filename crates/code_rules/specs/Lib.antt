pub mod Nests
pub mod Others
pub mod Places
pub mod inner
