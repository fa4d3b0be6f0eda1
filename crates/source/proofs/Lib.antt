-- The laws of this crate's promises. Its functions need no proof files.
pub mod Determined
pub mod Unopened
