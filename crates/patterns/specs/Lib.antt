-- The pattern language: its definitions (Utf8, Pattern) and its laws.
pub mod Utf8
pub mod Pattern
pub mod Lists
pub mod Utf8Laws
pub mod Meaning
pub mod Longest
pub mod Walk
pub mod Agree
pub mod Apart
pub mod Determined
