-- What the calls on a lent stream share: the one walk of all nine, and how it gives their contracts.
pub mod Answers
pub mod Determined
pub mod Lent
pub mod Lifted
pub mod Params
pub mod Shapes
pub mod Thin
