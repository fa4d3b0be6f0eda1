-- Of a call on an event stream that stands as numbers: examples (Live), its cases (LiveCases), that what it stores is all that it changes
-- (Changes), its laws (LiveLaws), and that its promise leaves no choice (Determined). What these want of the stream itself: that a pop
-- which finds none changes nothing (NoneStill), and that its answers can be read back (Readings).
pub mod Live
pub mod LiveCases
pub mod Changes
pub mod NoneStill
pub mod LiveLaws
pub mod Readings
pub mod Determined
