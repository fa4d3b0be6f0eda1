-- Theorems about what stands in specs/, in modules of the same names.
pub mod Choosing
pub mod Better
pub mod First
pub mod Families
pub mod Words
pub mod Marks
