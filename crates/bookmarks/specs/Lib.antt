-- The bookmarks (Bookmarks), one more of them (Inserting) and one less (Removing), their laws, and
-- laws of walks over the places one by one (Turns, InsertingTurns, RemovingTurns).
pub mod Bookmarks
pub mod HeldLaws
pub mod TestLaws
pub mod Turns
pub mod Inserting
pub mod InsertingLaws
pub mod InsertingTurns
pub mod Removing
pub mod RemovingLaws
pub mod RemovingTurns
pub mod PlaceLaws
