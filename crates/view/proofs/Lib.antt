pub mod Beginnings
pub mod Lookups
pub mod Steps
pub mod Showing
