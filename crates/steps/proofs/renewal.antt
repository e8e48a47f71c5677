-- A core that is renewed.
pub mod LiveEntries
pub mod NextOpening
pub mod RenewalRefusals
pub mod JoinedLogs
pub mod RestedStore
