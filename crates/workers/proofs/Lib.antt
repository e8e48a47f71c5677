pub mod CoreGrowth
pub mod Counting
pub mod Faults
pub mod Growth
pub mod Keeping
pub mod Places
pub mod Protocol
pub mod Rounds
mod StreamedImage
