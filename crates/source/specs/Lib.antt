-- A token source (Sources), its next token (Next), and how an answer is read back (Determined).
pub mod Sources
pub mod Next
pub mod Determined
