-- Scripts of calls on a window: the calls as numbers, and what a script answers and leaves.
pub mod Script
pub mod ReplayLaws
pub mod Asking
pub mod AskingLaws
