-- The modes by number (Modes).
pub mod Modes
