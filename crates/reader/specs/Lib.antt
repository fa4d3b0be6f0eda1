-- The reader's calls (Reading), and the laws of scanning on.
pub mod Reading
pub mod ReaderLaws
pub mod Following
