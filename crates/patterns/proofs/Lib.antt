-- Theorems about what stands in specs/, in modules of the same names.
pub mod Pattern
pub mod Bools
pub mod Lists
pub mod Utf8Laws
pub mod Meaning
pub mod Longest
pub mod Walk
pub mod Agree
pub mod Apart
pub mod Determined
