pub mod Cursor
pub mod Cyclic
pub mod Laws
pub mod Turnstile
pub mod inner
