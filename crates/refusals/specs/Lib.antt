-- The refusals' numbers (Refusals), what a call leaves (Calls), and laws.
pub mod Calls
pub mod Refusals
pub mod RefusalLaws
