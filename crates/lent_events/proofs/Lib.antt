-- Theorems about what stands in specs/, in modules of the same names.
pub mod Determined
pub mod Lent
pub mod Lifted
pub mod Params
pub mod Thin
