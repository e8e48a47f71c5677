-- What private functions and the proofs speak of, and no public contract.
pub mod Pieces
