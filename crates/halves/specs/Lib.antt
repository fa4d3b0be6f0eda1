-- A number as two (Halves).
pub mod Halves
