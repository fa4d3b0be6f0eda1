-- What the programs of the gate read: lines, numbers in decimal, bytes as pairs of hex digits.
pub mod Lines
pub mod LineLaws
pub mod Examples
pub mod Split
pub mod Decimals
pub mod DecimalLaws
pub mod DecimalExamples
pub mod Hex
pub mod HexLaws
pub mod DecodingLaws
pub mod HexExamples
