-- What the decoder's contracts and proofs cite (Rows, Rest), and laws for the crates above: ranges, and runs of characters.
pub mod Ranges
pub mod Rows
pub mod Rest
pub mod Runs
