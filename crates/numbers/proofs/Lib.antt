-- What several proofs of the crate cite.
pub mod Bases
