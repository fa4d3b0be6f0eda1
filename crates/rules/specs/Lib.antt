-- The token at a place in a mode: what each family of rules finds, and the one that is chosen.
pub mod Choosing
pub mod Better
pub mod First
pub mod Families
pub mod Words
pub mod Marks
