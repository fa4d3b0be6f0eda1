-- Theorems about what stands in specs/, in modules of the same names.
pub mod Scripts
pub mod Running
pub mod Tables
