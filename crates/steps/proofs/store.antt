-- Edits of a store's records.
pub mod RecordEdits
pub mod SlotEdits
pub mod KeyCount
pub mod FoundSlots
