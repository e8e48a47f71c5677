-- What the fields of a core say, and a core as it is opened.
pub mod CoreState
pub mod OpenedCore
pub mod FilledLists
pub mod KeyStatuses
