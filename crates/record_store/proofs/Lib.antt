pub mod Tournaments
pub mod Offers
pub mod Joined
pub mod Fields
pub mod Seen
pub mod Making
pub mod ChangedKeys
pub mod Versions
