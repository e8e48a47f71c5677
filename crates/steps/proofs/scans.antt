-- The scan of a checkpoint, and its image.
pub mod ScanPlaces
pub mod CapturingCore
pub mod CompletedImage
pub mod SentEntries
pub mod SharedDigests
pub mod VisitCounts
pub mod ScannedKeys
pub mod Spots
