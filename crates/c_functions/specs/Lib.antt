-- What the C functions answer and leave.
pub mod Answers
pub mod AnswerLaws
pub mod Determined
pub mod TokensAt
pub mod TokensAtLaws
pub mod WindowLeft
pub mod EventsLeft
pub mod ListingOf
