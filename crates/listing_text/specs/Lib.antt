-- The listing: its text, how long it is, and the call that writes it.
pub mod Listed
pub mod Turns
pub mod ListedLaws
pub mod Listing
pub mod Put
pub mod Fitting
pub mod Sizes
pub mod Measuring
