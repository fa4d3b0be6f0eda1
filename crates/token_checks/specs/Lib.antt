-- What takes long to compute of the rules and the Unicode tables.
pub mod Ties
pub mod Members
