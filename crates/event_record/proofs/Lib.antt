-- Theorems about what stands in specs/, in modules of the same names.
pub mod RecordLaws
pub mod Unclosed
pub mod Examples
