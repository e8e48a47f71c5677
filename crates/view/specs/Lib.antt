pub mod Histories
pub mod Rows
pub mod Shown
pub mod Texts
pub mod Views
