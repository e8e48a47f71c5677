-- Records that are set aside, and those that are reclaimed.
pub mod Candidates
pub mod SetAside
pub mod ReclaimableKeys
pub mod ReclaimedCore
