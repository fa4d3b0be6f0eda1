-- The record of an event stream as numbers (Numbers), and that each is read back from the other (NumberLaws).
pub mod Numbers
pub mod NumberLaws
