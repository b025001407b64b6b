pub mod Firsts
pub mod Marks
pub mod Orders
pub mod Received
pub mod Rows
pub mod Sides
