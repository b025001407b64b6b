pub mod Firsts
pub mod Naming
pub mod Ordered
pub mod Spending
pub mod Used
pub mod Weights
