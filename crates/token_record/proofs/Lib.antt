-- Theorems about what stands in specs/, in modules of the same names.
pub mod Examples
