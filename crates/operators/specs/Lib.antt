-- The laws of a hex byte; those of operators and newlines are places' (Signs).
pub mod HexByte
