-- What the proofs of this crate's callers cite.
pub mod Answers
pub mod ReaderLaws
pub mod Following
pub mod Iterating
