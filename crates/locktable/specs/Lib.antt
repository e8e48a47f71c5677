pub mod Modes
pub mod Locks
pub mod Holders
pub mod Tables
pub mod Changes
