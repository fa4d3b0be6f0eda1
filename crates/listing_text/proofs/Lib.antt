-- Theorems about what stands in specs/, in modules of the same names.
pub mod ListedExamples
pub mod Turns
pub mod ListedLaws
pub mod Examples
pub mod Put
pub mod Numbers
pub mod Fitting
pub mod Sizes
pub mod Measuring
