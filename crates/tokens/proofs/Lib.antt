-- Theorems about what stands in specs/, in modules of the same names.
pub mod Modes
pub mod NoneOf
pub mod Marked
pub mod Examples
pub mod Shapes
pub mod BestLaws
pub mod ScanLaws
pub mod ListLaws
pub mod DigitTables
