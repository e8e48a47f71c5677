-- Histories and images, in the words of the log.
pub mod OldestFirst
pub mod Cuts
pub mod ImageChains
pub mod SchedulePromises
pub mod DrivenLog
