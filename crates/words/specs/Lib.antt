-- The kind of a word (Keywords), and the laws of words and of keywords.
pub mod Tail
pub mod Digits
pub mod Keywords
pub mod Same
pub mod Lengths
pub mod Choosing
pub mod Spellings
