-- What the proofs of the program speak of, and no contract of a command.
pub mod ListedPairs
pub mod Listings
pub mod Queues
