-- The window's calls (Window), their laws, and those of the functions that they are made of.
pub mod Window
pub mod SoundLaws
pub mod WindowLaws
pub mod OpenLaws
pub mod Determined
pub mod TestLaws
pub mod Reaching
pub mod ReachingParts
pub mod ReachingLaws
pub mod Proceeding
pub mod ProceedingLaws
pub mod MarkLaws
pub mod SwitchLaws
pub mod Taking
