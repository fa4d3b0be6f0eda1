-- Theorems about what stands in specs/, in modules of the same names; Sizes and Laid are what Nesting and Viewing begin from.
pub mod CallLaws
pub mod Sizes
pub mod Nesting
pub mod Still
pub mod Laid
pub mod Viewing
pub mod Viewed
