-- What a token is: the definitions (Kinds, Modes, Unicode, Tokens, Scan), the examples that pin them, and their laws.
pub mod Kinds
pub mod Modes
pub mod Unicode
pub mod Tokens
pub mod Scan
pub mod NoneOf
pub mod Marked
pub mod Examples
pub mod Shapes
pub mod BestLaws
pub mod ScanLaws
pub mod ListLaws
